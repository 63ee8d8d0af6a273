-- Each pass adds a read to those before it. The measure is the count of reads left.
use Rattle.std.proofs.Common.{◌≡◌, ℕ, Bool, true, false, not, List, sym, refl, ap, subst, arith}
use Rattle.listing.specs.declared.Listing.{Listing}
use Rattle.listing.specs.Reads.{ListsReads, no_read, another_read}
use Rattle.listing.proofs.list.Goals as goal

goes_on : (done : Bool) → not done ≡ true → done ≡ false
goes_on true e = sym e
goes_on false e = refl

-- a count by another name
counted : {buffer₀ text₀ buffer text : List ℕ} {listing : Listing} {n k : ℕ} → n ≡ k → ListsReads buffer₀ text₀ n listing buffer text
    → ListsReads buffer₀ text₀ k listing buffer text
counted {buffer₀} {text₀} {buffer} {text} {listing} e reads = subst (λ (m : ℕ). ListsReads buffer₀ text₀ m listing buffer text) e reads

pub loop-reads-init : goal.loop-reads-init
loop-reads-init c =
    let buffer = c.args.buffer.now in
    let text = c.args.text.now in (
      refl,
      refl,
      refl,
      omega (arith, ap (λ (l : Listing). l.pending) c.fresh-listing.ensures),
      omega arith,
      subst (λ (l : Listing). ListsReads buffer text 0 l buffer text) (sym c.fresh-listing.ensures) no_read,
    )

pub loop-reads-preserved : goal.loop-reads-preserved
loop-reads-preserved c =
    let reads = another_read c.loop-reads.invariant.5 (goes_on _ c.if-not-listing.true) c.list_next-listing.ensures.1 in
    (omega arith, omega arith, omega arith, omega arith, omega arith, counted (omega arith) reads)
