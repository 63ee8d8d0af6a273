-- No mark: none of the keys after it. Else they are compared.
use Rattle.writer_checks.proofs.GroundLaws.{row_in}
use Rattle.writer_checks.proofs.MarkLaws.{unmarked, marked_more}
use Rattle.writer_checks.proofs.keys.LentRows.mark_key.Goals as goal

pub key_place-place-requires : goal.key_place-place-requires
key_place-place-requires c = (row_in _ _ _ c.requires.0 _ c.args.self.now.lie.within).0

pub returns-then-mark-eq0 : goal.returns-then-mark-eq0
returns-then-mark-eq0 c =
    let place = c.key_place-place.ensures in
    let none = unmarked _ _ _ (rw place at c.if-mark-eq0.true) _ c.requires.1.marks in
    (none, marked_more _ _ _ _ _ _ c.requires.0 place c.requires.1)

pub returns : goal.returns
returns c = (c.no_key.ensures, marked_more _ _ _ _ _ _ c.requires.0 c.key_place-place.ensures c.requires.1)
