-- A layer, a mask and a channel, each with its hierarchy: their rows.
use Rattle.std.specs.Prelude.{ℕ, cond, eqb}
use Rattle.xcf_walk.specs.Walk.{Walk, done, jump, ◌>>=◌, ◌>>◌}
use Rattle.xcf_table.specs.Table.{Rows, add_row}
use Rattle.xcf_table.specs.declared.canvas.Canvas.{Canvas}
use Rattle.xcf_parse.specs.declared.drawable.Layer.{Layer}
use Rattle.xcf_parse.specs.declared.drawable.Owner.{Owner}
use Rattle.xcf_parse.specs.Hierarchy.{hierarchy}
use Rattle.xcf_table.specs.Canvas.{depth_of}
use Rattle.xcf_parse.specs.Drawable.{layer, channel}
use Rattle.xcf_row.specs.Row.{layer_row, channel_row, mask_owner, channel_owner}

-- all fields of a structure, then its hierarchy; a layer's mask comes last
unfoldable pub channel_rows : ℕ → Owner → Rows → Walk Rows
channel_rows size o rows = do
  x ← channel size o
  jump x.hierarchy
  tiles ← hierarchy size o.width o.height 1
  done (add_row rows (channel_row o x tiles))

unfoldable pub mask_rows : ℕ → Layer → ℕ → Rows → Walk Rows
mask_rows size x k rows =
    cond (eqb x.mask 0)
    (done rows)
    (do
      jump x.mask
      channel_rows size (mask_owner x k) rows)

unfoldable pub layer_rows : ℕ → Canvas → Rows → Walk Rows
layer_rows size c rows = do
  x ← layer size c.base
  jump x.fields.hierarchy
  tiles ← hierarchy size x.width x.height (depth_of x.form)
  mask_rows size x rows.count (add_row rows (layer_row x tiles rows.count))

unfoldable pub canvas_channel_rows : ℕ → Canvas → Rows → Walk Rows
canvas_channel_rows size c rows = channel_rows size (channel_owner c rows.count) rows
