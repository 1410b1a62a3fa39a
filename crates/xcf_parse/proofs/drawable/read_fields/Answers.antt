-- `read_fields` meets its contract: the name and the end of its string lie in the file (`low`).
use Prim.Native.Nat.{ℕ}
use mathlib.Core.Path.{sym}
use native.Mathlib.Omega.{arith}
use lib.ListN.{length}
use Rattle.std.specs.Prelude.{Ok}
use Rattle.xcf_property.specs.declared.Properties.{Properties}
use Rattle.xcf_walk.specs.declared.cursor.Cursor.{Cursor}
use Rattle.xcf_walk.specs.declared.cursor.Name.{Name}
use Rattle.xcf_walk.specs.Fields.{string}
use Rattle.xcf_walk.specs.Cursor.{Walks}
use Rattle.xcf_walk.proofs.Within.{got_string}
use Rattle.xcf_parse.specs.Parts.{FieldsLow}
use Rattle.xcf_parse.proofs.drawable.read_fields.Goals as goal

low : {c d : Cursor} {name : Name} {h : ℕ} {p : Properties} → Walks string c (Ok name) d
    → FieldsLow (record { name = name; list = d.at; properties = p; hierarchy = h }) (length c.file.now)
low {c} t =
    let within = got_string c.file.now c.at (sym t.gives) in record {
      name = omega (arith, within.0);
      size = omega (arith, within.0);
      list = within.1;
    }

pub returns-clause-fields_low : goal.returns-clause-fields_low
returns-clause-fields_low c = low c.in_ok-name.ensures
