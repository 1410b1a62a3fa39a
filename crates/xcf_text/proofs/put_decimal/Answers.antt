-- `put_decimal` meets its contract: the digits that itoa's `format` makes are the number in decimal, by `decimal_is`, and at most 20.
use Rattle.std.proofs.Common.{◌≡◌, rules}
use Rattle.std.specs.Fmt as fmt
use Rattle.xcf_store.proofs.Stores.{put_within, within_more}
use Rattle.xcf_text.proofs.Decimal.{decimal_is, few_digits}
use Rattle.xcf_text.proofs.put_decimal.Goals as goal

pub returns-clause-stores : goal.returns-clause-stores
returns-clause-stores c =
    let n = c.args.n in
    let fits = c.ranges.n.fits in
    let digits : c.as_bytes.result.now ≡ fmt.decimal n = search rules in
    rw (← decimal_is n fits, ← digits) (within_more 20 (rw digits (few_digits n fits)) (put_within c.bytes.ensures.stores))
