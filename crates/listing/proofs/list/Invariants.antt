-- Each pass adds a read to those before it. The measure is the count of reads left.
use Rattle.std.proofs.Common.{◌≡◌, ◌-◌, ◌≤◌, length}
use Rattle.listing.specs.Reads.{ListsReads}
use Rattle.listing.proofs.list.Given as goal

abbrev pub invariant-loop-reads : goal.invariant-loop-reads
invariant-loop-reads l =
    (length l.piece ≡ length l.initial.piece) × (length l.buffer ≡ length l.initial.buffer) × (length l.text ≡ length l.initial.text) × (l.listing.pending ≤ length l.initial.text)
    × (l.reads ≤ 18446744073709551615)
    × ListsReads l.initial.buffer l.initial.text (18446744073709551615 - l.reads) l.listing l.buffer l.text

abbrev pub decreases-loop-reads : goal.decreases-loop-reads
decreases-loop-reads l = l.reads
