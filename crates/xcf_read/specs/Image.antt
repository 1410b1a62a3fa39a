-- The image, and all that it points to.
use Rattle.std.specs.Prelude.{ℕ, List, [], ◌∷◌}
use Rattle.xcf_numbers.specs.Limit.{layer_limit, channel_limit}
use Rattle.xcf_walk.specs.Walk.{Walk, done, jump, PassedOver, ◌>>=◌, ◌>>◌}
use Rattle.xcf_walk.specs.Pointers.{pointers}
use Rattle.xcf_table.specs.Table.{Rows, no_rows}
use Rattle.xcf_table.specs.declared.canvas.Canvas.{Canvas}
use Rattle.xcf_parse.specs.declared.image.Head.{Head}
use Rattle.xcf_read.specs.Drawable.{layer_rows, canvas_channel_rows}
use Rattle.xcf_parse.specs.Image.{pointer_size, head}

-- the drawables at these places, each read by the walk one, behind the rows so far
unfoldable pub drawables : (Rows → Walk Rows) → List ℕ → Rows → Walk Rows
drawables one [] rows = done rows
drawables one (p ∷ ps) rows = do
  jump p
  next ← one rows
  drawables one ps next

-- an image and its rows
pub record Image : Type 0 where
  pub head : Head
  pub rows : Rows

unfoldable pub canvas_of : Head → Canvas
canvas_of h = record { width = h.width; height = h.height; base = h.base }

-- behind the head: pointers of `size` bytes to layers, then to channels, each list closed by 0, and the rows of all that they lead to
unfoldable pub all_rows : ℕ → Canvas → Walk Rows
all_rows size c = do
  layers ← pointers size layer_limit
  channels ← pointers size channel_limit
  first ← drawables (layer_rows size c) layers no_rows
  drawables (canvas_channel_rows size c) channels first

-- the version decides how many bytes a pointer has
unfoldable pub image : Walk Image
image = do
  h ← head
  rows ← all_rows (pointer_size h.version) (canvas_of h)
  done (record { head = h; rows = rows })

-- a structure byte (RULES, "The walk"); of a refused file, one that is passed over before the fault
unfoldable pub structure_byte : List ℕ → ℕ → Type 0
structure_byte f i = PassedOver image f 0 i
