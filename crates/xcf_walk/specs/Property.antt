-- Property lists: type, length, payload, ended by type 0; one rule for the image's list, a layer's, a mask's and a channel's. A pointer
-- has `size` bytes.
use Rattle.std.specs.Prelude.{ℕ, ◌*◌, cond, not, leb, eqb}
use Rattle.xcf_numbers.specs.Limit.{colour_limit}
use Rattle.xcf_numbers.specs.PropertyType
use Rattle.xcf_numbers.specs.Refusal
use Rattle.xcf_property.specs.declared.Content.{Content}
use Rattle.xcf_walk.specs.declared.property.Property.{Property}
use Rattle.xcf_property.specs.declared.Properties.{Properties}
use Rattle.xcf_walk.specs.Walk.{Walk, done, bytes, here, must, Turn, more, last, loop, ◌>>=◌, ◌>>◌}
use Rattle.xcf_walk.specs.Fields.{word}
use Rattle.xcf_property.specs.Property.{length_ok, content_of, is_colour_map, map_length_ok, is_floating, lacks_map, allowed, defaults, put}

-- a payload whose length its type allows
unfoldable pub payload : ℕ → ℕ → ℕ → ℕ → Walk Content
payload size kind length_at n = do
  must (length_ok size kind n) Refusal.bad_length length_at
  b ← bytes n
  done (content_of b)

-- the image's colour map: a count of at most 256 colours, and three bytes for each, whichever of its two lengths is said
unfoldable pub colour_map : ℕ → ℕ → Walk Content
colour_map length_at n = do
  must (leb 4 n) Refusal.bad_length length_at
  countAt ← here
  count ← word
  must (leb count colour_limit) Refusal.bad_content countAt
  must (map_length_ok count n) Refusal.bad_length length_at
  bytes (3 * count)
  done (record { first = count; second = 0 })

unfoldable pub content : ℕ → ℕ → ℕ → ℕ → ℕ → Walk Content
content size list kind length_at n = cond (is_colour_map list kind) (colour_map length_at n) (payload size kind length_at n)

-- a property: its type, the place of its type word, the place of its payload, what its length word says, and its content
unfoldable pub property : ℕ → ℕ → Walk Property
property size list = do
  start ← here
  kind ← word
  length_at ← here
  n ← word
  place ← here
  c ← content size list kind length_at n
  done (record { kind = kind; start = start; place = place; length = n; content = c })

-- one property of a list; its content is tested once its payload is there
unfoldable pub property_turn : ℕ → ℕ → Properties → Walk (Turn Properties Properties)
property_turn size list p = do
  x ← property size list
  must (not (is_floating list x.kind)) Refusal.floating x.start
  must (not (lacks_map x.kind p)) Refusal.bad_content x.start
  must (allowed list x.kind x.content.first) Refusal.bad_content x.place
  done (cond (eqb x.kind PropertyType.end) (last (put list x.kind x.content p)) (more (put list x.kind x.content p)))

unfoldable pub properties : ℕ → ℕ → ℕ → Walk Properties
properties size list unmapped = loop (property_turn size list) (defaults list unmapped)
