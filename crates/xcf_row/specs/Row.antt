-- The row of a layer, a mask or a channel, from what its structure says.
use Rattle.std.specs.Prelude.{ℕ, ◌+◌, cond, eqb}
use Rattle.xcf_numbers.specs.Flag
use Rattle.xcf_numbers.specs.Kind
use Rattle.xcf_property.specs.declared.Properties.{Properties}
use Rattle.xcf_walk.specs.declared.cursor.Name.{Name}
use Rattle.xcf_table.specs.declared.Row.{Row}
use Rattle.xcf_grid.specs.Grid.{tile_count}
use Rattle.xcf_table.specs.declared.canvas.Canvas.{Canvas}
use Rattle.xcf_parse.specs.declared.drawable.Fields.{Fields}
use Rattle.xcf_parse.specs.declared.drawable.Layer.{Layer}
use Rattle.xcf_parse.specs.declared.drawable.Owner.{Owner}
use Rattle.xcf_table.specs.Canvas.{depth_of}

-- a flag, where a property's value is not 0
unfoldable pub flag : ℕ → ℕ → ℕ
flag v bit = cond (eqb v 0) 0 bit

-- the flag of a name
unfoldable pub name_flag : Name → ℕ
name_flag name = cond name.utf8 0 Flag.not_utf8

-- the flags that a layer can have; without a mask it applies none
unfoldable pub layer_flags : Properties → ℕ → Name → ℕ
layer_flags p mask name =
    flag p.visible Flag.visible + flag (cond (eqb mask 0) 0 p.apply) Flag.apply + flag p.active Flag.active + flag p.group Flag.group
    + name_flag name

unfoldable pub channel_flags : Properties → Name → ℕ
channel_flags p name =
    flag p.visible Flag.visible + flag p.selection Flag.selection + flag p.active Flag.active + name_flag name

unfoldable pub layer_row : Layer → ℕ → ℕ → Row
layer_row x tiles k = record {
  kind = Kind.layer;
  width = x.width;
  height = x.height;
  depth = depth_of x.form;
  form = x.form;
  name = x.fields.name.place;
  namelen = x.fields.name.length;
  list = x.fields.list;
  pointers = tiles;
  count = tile_count x.width x.height;
  opacity = x.fields.properties.opacity;
  flags = layer_flags x.fields.properties x.mask x.fields.name;
  dx = x.fields.properties.dx;
  dy = x.fields.properties.dy;
  mode = x.fields.properties.mode;
  owner = k;
}

unfoldable pub channel_row : Owner → Fields → ℕ → Row
channel_row o x tiles = record {
  kind = o.kind;
  width = o.width;
  height = o.height;
  depth = 1;
  form = 2;
  name = x.name.place;
  namelen = x.name.length;
  list = x.list;
  pointers = tiles;
  count = tile_count o.width o.height;
  opacity = x.properties.opacity;
  flags = channel_flags x.properties x.name;
  dx = o.dx;
  dy = o.dy;
  mode = 0;
  owner = o.row;
}

-- a mask's row takes its layer's sides and offsets; a channel has the canvas's sides and is its own owner
unfoldable pub mask_owner : Layer → ℕ → Owner
mask_owner x k =
    record { kind = Kind.mask; width = x.width; height = x.height; dx = x.fields.properties.dx; dy = x.fields.properties.dy; row = k }

unfoldable pub channel_owner : Canvas → ℕ → Owner
channel_owner c k = record { kind = Kind.channel; width = c.width; height = c.height; dx = 0; dy = 0; row = k }
