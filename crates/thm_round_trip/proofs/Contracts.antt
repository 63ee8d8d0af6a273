-- What `Writes` and `Locates` take a call of `write`, of `write_slots` and of `read_spans` to ensure is the `ensures` of its contract, and
-- what `Held` takes of a record is its type: the two are the same by computation, so neither can be changed without the other.
-- Assumes nothing.
use Prim.Native.Nat.{ℕ}
use mathlib.Core.Path.{◌≡◌, refl}
use mathlib.Core.List.{List, ◌∷◌}
use seplogic.Ra.Ura.{Ura}
use base.Logic.{SProp}
use base.Fml.{Lft}
use prog.Memory.{Memory}
use prog.Routine.{Routine}
use types.Logic.{Logic}
use contract.Lifetimes.{Lfts}
use contract.Monad.{Fun, fact}
use denote.Ref.{Bor, MutBor}
use denote.RattleType.{RattleType}
use denote.Signature.{types_at}
use denote.Triple.Clauses.{at_exit}
use Rattle.records.specs.contracts.Record as declared
use Rattle.message.specs.contracts.read_spans as read_spans
use Rattle.schema.specs.declared.Kind.{Kind}
use Rattle.message.specs.declared.Located.{Located}
use Rattle.records.specs.declared.Record.{Record}
use Rattle.refusals.specs.Refusals.{in_numbers}
use Rattle.refusals.specs.declared.Refusal.{Refusal}
use Rattle.std.specs.Prelude.{Result}
use Rattle.records.specs.Records.{record_of}
use Rattle.writer.specs.contracts.write as write
use Rattle.writer.specs.contracts.write_slots as write_slots
use Rattle.thm_round_trip.specs.Calls.{Writes, Locates}

pub write_ensures : {M : Type 1} {𝓤 : Ura M} (𝓛 : Logic 𝓤) (mem : Memory → SProp 𝓤) (run : Routine → Fun 𝓤) (a b c d : Lft)
    (r : Record) (source rows body : Bor (List ℕ)) (out : MutBor (List ℕ)) (ceiling : ℕ) (answer : Result ℕ Refusal) (after : List ℕ)
    → (write.clauses 𝓛 mem run (a, (b, (c, (d, tt)))) (r, (source, (rows, (body, (out, (ceiling, tt))))))).ensures tt answer
    (at_exit write.ended (a, (b, (c, (d, tt)))) (r, (source, (rows, (body, (out, (ceiling, tt))))))
    (tt, (tt, (tt, (tt, (after, (tt, tt)))))))
    ≡ fact 𝓤 (Writes ceiling r source.now rows.now body.now out.now (record { answer = in_numbers answer; output = after }))
write_ensures 𝓛 mem run a b c d r source rows body out ceiling answer after = refl

pub write_slots_ensures : {M : Type 1} {𝓤 : Ura M} (𝓛 : Logic 𝓤) (mem : Memory → SProp 𝓤) (run : Routine → Fun 𝓤)
    (a b c d : Lft) (kind : Kind) (id version : ℕ) (slots : List ℕ) (count : ℕ) (source rows body : Bor (List ℕ)) (out : MutBor (List ℕ)) (ceiling : ℕ)
    (answer : Result ℕ Refusal) (after : List ℕ)
    → (write_slots.clauses 𝓛 mem run (a, (b, (c, (d, tt))))
    (kind, (id, (version, (slots, (count, (source, (rows, (body, (out, (ceiling, tt))))))))))).ensures tt answer
    (at_exit write_slots.ended (a, (b, (c, (d, tt))))
    (kind, (id, (version, (slots, (count, (source, (rows, (body, (out, (ceiling, tt))))))))))
    (tt, (tt, (tt, (tt, (tt, (tt, (tt, (tt, (after, (tt, tt)))))))))))
    ≡ fact 𝓤
    (Writes ceiling (record_of kind id version slots count) source.now rows.now body.now out.now
    (record { answer = in_numbers answer; output = after }))
write_slots_ensures 𝓛 mem run a b c d kind id version slots count source rows body out ceiling answer after = refl

-- the record that a call of `write` is passed is of the type that `Held` names
pub write_takes : (κs : Lfts 4) → (others : List RattleType) × (types_at (write.signature).params κs ≡ declared.the_row ∷ others)
write_takes κs = (_, refl)

pub read_spans_ensures : {M : Type 1} {𝓤 : Ura M} (𝓛 : Logic 𝓤) (mem : Memory → SProp 𝓤) (run : Routine → Fun 𝓤) (a b : Lft)
    (kind : Kind) (frame : Bor (List ℕ)) (ceiling : ℕ) (rows : MutBor (List ℕ)) (x : Located) (after : List ℕ)
    → (read_spans.clauses 𝓛 mem run (a, (b, tt)) (kind, (frame, (ceiling, (rows, tt))))).ensures tt x
    (at_exit read_spans.ended (a, (b, tt)) (kind, (frame, (ceiling, (rows, tt)))) (tt, (tt, (tt, (after, tt)))))
    ≡ fact 𝓤 (Locates ceiling kind frame.now rows.now x after)
read_spans_ensures 𝓛 mem run a b kind frame ceiling rows x after = refl
