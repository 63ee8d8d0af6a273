-- `add_entry` meets its contract: the count of entries is tested first, then the entry is read, and its row is entered among those of the
-- state.
use Rattle.std.proofs.lemmas.Result.{err_from_is_err_and}
use Rattle.decoder.proofs.MapEntries.{too_many, few_rows, entry_refused, entry_added}
use Rattle.decoder.proofs.messages.add_entry.Goals as goal

pub returns-then-slots-ge-MAX_ENTRIES : goal.returns-then-slots-ge-MAX_ENTRIES
returns-then-slots-ge-MAX_ENTRIES c =
    let args = c.args in
    too_many args.frame.now args.start args.size args.slots args.rows.now c.if-slots-ge-MAX_ENTRIES.true

pub enter_row-count-requires : goal.enter_row-count-requires
enter_row-count-requires c =
    let args = c.args in
    let room = c.if-slots-ge-MAX_ENTRIES.false in
    let h = c.requires.2 in (
      few_rows args.frame.now args.start args.size args.slots args.rows.now room _ c.read_entry.ensures h _ c.in_ok-new.was,
      h.long,
      h.laid,
    )

pub returns-in_err-new : goal.returns-in_err-new
returns-in_err-new c =
    let args = c.args in
    let p = err_from_is_err_and c.from_residual.result c.from_residual.ensures.1 in
    rw (p.1, p.2)
    (entry_refused args.frame.now args.start args.size args.slots args.rows.now c.if-slots-ge-MAX_ENTRIES.false _ c.read_entry.ensures _
    c.in_err-new.was)

pub returns : goal.returns
returns c =
    let args = c.args in
    let room = c.if-slots-ge-MAX_ENTRIES.false in
    let call = c.enter_row-count in
    entry_added args.frame.now args.start args.size args.slots args.rows.now room _ c.read_entry.ensures
    c.requires.2 _ c.in_ok-new.was _ call.new.rows call.ensures
