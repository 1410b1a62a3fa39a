-- Each return is one refusal, or the law of an encoding put into the output: the laws of `Answers`.
use mathlib.Core.Path.{◌≡◌, sym, ◌∙◌}
use mathlib.Core.Bool.{Bool, true}
use Prim.Native.Nat.{ℕ, ◌*◌, ◌≤◌}
use native.Mathlib.Omega.{arith}
use Rattle.xcf_numbers.specs.Limit.{depth_limit, stream_limit, tile_size}
use Rattle.xcf_encode.proofs.Answers.{unusable, other_length, tile_room}
use Rattle.xcf_tile.specs.Answer.{usable_tile}
use Rattle.xcf_tile.proofs.Sizes.{usable_bounds}
use Rattle.xcf_laws.proofs.Products.{small}
use Rattle.xcf_encode.proofs.encoded_tile.Goals as goal

-- the bounds of a usable tile
sizes : (w h depth : ℕ) {u : Bool} → u ≡ usable_tile w h depth → u ≡ true → (w * h ≤ stream_limit) × ((w * h * depth ≤ tile_size) × (depth ≤ depth_limit))
sizes w h depth e t =
    let b = usable_bounds w h depth (sym e ∙ t) in
    let s = small b.0 b.1.0 b.1.1 in (s.0, (s.1, b.1.1))

pub returns-then-not-usable_tile : goal.returns-then-not-usable_tile
returns-then-not-usable_tile c = unusable _ _ _ _ _ (sym c.usable_tile.ensures ∙ c.if-not-usable_tile.true)

pub overflow_mul-n : goal.overflow_mul-n
overflow_mul-n c = omega (arith, sizes _ _ _ c.usable_tile.ensures c.if-not-usable_tile.false)

pub overflow_mul-n-2 : goal.overflow_mul-n-2
overflow_mul-n-2 c = omega (arith, sizes _ _ _ c.usable_tile.ensures c.if-not-usable_tile.false)

pub returns-then-pixels-n : goal.returns-then-pixels-n
returns-then-pixels-n c = other_length _ _ _ _ _ (sym c.usable_tile.ensures ∙ c.if-not-usable_tile.false) c.if-pixels-n.true

pub new-requires : goal.new-requires
new-requires c =
    let s = sizes _ _ _ c.usable_tile.ensures c.if-not-usable_tile.false in (c.if-pixels-n.false, (s.0, s.1.1))

pub returns : goal.returns
returns c =
    let a = c.args in
    let pixels = c.new.ensures in
    let room = tile_room a.pixels.now a.width a.height a.depth a.output.now (sym c.usable_tile.ensures ∙ c.if-not-usable_tile.false) c.if-pixels-n.false in
    rw (pixels.0, pixels.1.0, pixels.1.1, room) at c.encode.ensures
