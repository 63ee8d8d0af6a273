-- The rows that are lent, each as its four numbers, and the first of them that has the key.
use Rattle.std.proofs.Common.{rules, tests, ◌∙◌, ap, ℕ, take}
use Rattle.std.proofs.lemmas.Iterator.{YieldsList-from_slice}
use Rattle.std.proofs.lemmas.Iterator.Search.{position_from_yields_List}
use Rattle.decoder.specs.Fields.{part_of}
use Rattle.decoder.proofs.Fours.{has_key, first_lent}
use Rattle.decoder.proofs.find_key.Goals as goal

pub returns : goal.returns
returns c =
    let args = c.args in
    let key = part_of args.bytes.now args.key args.key_size in
    let chunks = c.as_chunks.ensures in
    c.unwrap_or.ensures
    ∙ first_lent args.bytes.now key args.count args.rows.now c.as_chunks.result.0.now _ chunks.front chunks.front_len
    (ap (λ (n : ℕ). take n c.as_chunks.result.0.now) c.min.ensures) c.position.result
    (position_from_yields_List (has_key args.bytes.now key) _ _ _ c.position.ensures.ran (YieldsList-from_slice _ cc)
    (λ x b q k. search (rules, tests)))
