-- `enter_row` meets its contract: what is stored at the place of the key are the numbers of the rows with the entry (`RowUpdates`).
use Rattle.std.proofs.Common.{ℕ, ◌≡◌, ◌<◌, ◌≤◌, List, length, ap, ◌∙◌, arith}
use Rattle.std.proofs.Math.ListN.{length-set}
use Rattle.decoder.specs.Fields.{key_place}
use Rattle.decoder.specs.Rows.{row_numbers, rows_in, rows_lent}
use Rattle.decoder.specs.DecoderState.{row_of_entry}
use Rattle.decoder.proofs.RowLaws.{all_lent}
use Rattle.decoder.proofs.RowUpdates.{key_place_lem, row_replaced, row_added}
use Rattle.decoder.proofs.rows.enter_row.Goals as goal

-- the place is among these rows, which are all lent, or behind the last
found : (frame key : List ℕ) (count : ℕ) (rows : List ℕ) (place : ℕ) → count < 64 → row_numbers ≤ length rows
    → place ≡ key_place frame key (rows_lent count rows) → place ≡ key_place frame key (rows_in count rows)
found frame key count rows place few long e = e ∙ ap (key_place frame key) (all_lent count rows (omega arith))

bound : (frame key : List ℕ) (count : ℕ) (rows : List ℕ) (place : ℕ) → count < 64 → row_numbers ≤ length rows
    → place ≡ key_place frame key (rows_lent count rows) → place ≤ count
bound frame key count rows place few long e = key_place_lem frame key count rows place (found frame key count rows place few long e)

pub overflow_mul-at : goal.overflow_mul-at
overflow_mul-at c =
    omega (arith, bound _ _ _ _ _ c.requires.0 c.requires.1 c.find_key-place.ensures)

pub bounds-rows-at-then-place-count : goal.bounds-rows-at-then-place-count
bounds-rows-at-then-place-count c =
    simp length-set (omega (arith, bound _ _ _ _ _ c.requires.0 c.requires.1 c.find_key-place.ensures))

pub offset_bounds-rows-at-2 : goal.offset_bounds-rows-at-2
offset_bounds-rows-at-2 c =
    omega (arith, bound _ _ _ _ _ c.requires.0 c.requires.1 c.find_key-place.ensures)

pub bounds-rows-at-2 : goal.bounds-rows-at-2
bounds-rows-at-2 c =
    omega (arith, bound _ _ _ _ _ c.requires.0 c.requires.1 c.find_key-place.ensures)

pub overflow_add-rows-2 : goal.overflow_add-rows-2
overflow_add-rows-2 c =
    omega (arith, bound _ _ _ _ _ c.requires.0 c.requires.1 c.find_key-place.ensures)

pub offset_bounds-rows-at-3 : goal.offset_bounds-rows-at-3
offset_bounds-rows-at-3 c =
    omega (arith, bound _ _ _ _ _ c.requires.0 c.requires.1 c.find_key-place.ensures)

pub bounds-rows-at-3 : goal.bounds-rows-at-3
bounds-rows-at-3 c =
    simp length-set (omega (arith, bound _ _ _ _ _ c.requires.0 c.requires.1 c.find_key-place.ensures))

pub overflow_add-rows-3 : goal.overflow_add-rows-3
overflow_add-rows-3 c =
    omega (arith, bound _ _ _ _ _ c.requires.0 c.requires.1 c.find_key-place.ensures)

pub offset_bounds-rows-at-4 : goal.offset_bounds-rows-at-4
offset_bounds-rows-at-4 c =
    omega (arith, bound _ _ _ _ _ c.requires.0 c.requires.1 c.find_key-place.ensures)

pub bounds-rows-at-4 : goal.bounds-rows-at-4
bounds-rows-at-4 c =
    simp length-set (omega (arith, bound _ _ _ _ _ c.requires.0 c.requires.1 c.find_key-place.ensures))

pub overflow_add-rows-4 : goal.overflow_add-rows-4
overflow_add-rows-4 c =
    omega (arith, bound _ _ _ _ _ c.requires.0 c.requires.1 c.find_key-place.ensures)

pub offset_bounds-rows-at-5 : goal.offset_bounds-rows-at-5
offset_bounds-rows-at-5 c =
    omega (arith, bound _ _ _ _ _ c.requires.0 c.requires.1 c.find_key-place.ensures)

pub bounds-rows-at-5 : goal.bounds-rows-at-5
bounds-rows-at-5 c =
    simp length-set (omega (arith, bound _ _ _ _ _ c.requires.0 c.requires.1 c.find_key-place.ensures))

pub returns-then-place-count : goal.returns-then-place-count
returns-then-place-count c =
    let args = c.args in
    let pre = c.requires in
    row_replaced args.frame.now (row_of_entry args.new) args.count _ args.rows.now
    (found _ _ _ _ _ pre.0 pre.1 c.find_key-place.ensures) pre.2 c.if-place-count.true

pub returns : goal.returns
returns c =
    let args = c.args in
    let pre = c.requires in
    row_added args.frame.now (row_of_entry args.new) args.count _ args.rows.now
    (found _ _ _ _ _ pre.0 pre.1 c.find_key-place.ensures) pre.2 c.if-place-count.false pre.0
