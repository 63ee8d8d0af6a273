-- The structs of crate `queue` as the walks meet them, and what an answer's machine value says of its parts.
-- Assumes nothing.
use mathlib.Core.List.{[], ◌∷◌}
use mir.Syntax.{w32, w64}
use mir.Val.{vint}
use denote.Builtin.{u32, u64}
use denote.Laws.{Is}
use denote.Struct.Laws.{owes, owed}
use Rattle.queue.specs.declared.Job.{Job}
use Rattle.queue.specs.declared.Added.{Added}
use Rattle.queue.specs.declared.Removed.{Removed}
use Rattle.queue.specs.contracts.Job as J
use Rattle.queue.proofs.Job.TheLaws as J'
use Rattle.queue.specs.contracts.Queue as Q
use Rattle.queue.proofs.Queue.TheLaws as Q'
use Rattle.queue.specs.contracts.Added as A
use Rattle.queue.proofs.Added.TheLaws as A'
use Rattle.queue.specs.contracts.Removed as R
use Rattle.queue.proofs.Removed.TheLaws as R'
use Rattle.queue_in_place.proofs.Lent.{PlainStruct, val, Fits}

abbrev pub job_struct : PlainStruct
job_struct = record { type = J.the_type; laws = J'.the_laws; plain = J'.the_plain }

abbrev pub queue_struct : PlainStruct
queue_struct = record { type = Q.the_type; laws = Q'.the_laws; plain = Q'.the_plain }

abbrev pub added_struct : PlainStruct
added_struct = record { type = A.the_type; laws = A'.the_laws; plain = A'.the_plain }

abbrev pub removed_struct : PlainStruct
removed_struct = record { type = R.the_type; laws = R'.the_laws; plain = R'.the_plain }

pub job_fits :
    (j : Job)
    → Is u32 j.connection (vint w32 j.connection ∷ []) → Is u32 j.request (vint w32 j.request ∷ [])
    → Is u32 j.timeout (vint w32 j.timeout ∷ []) → Is u32 j.zero (vint w32 j.zero ∷ [])
    → Is u64 j.arrival (vint w64 j.arrival ∷ []) → Fits job_struct j
job_fits j c r t z a = owes J.the_type J'.the_laws j (c, (r, (t, (z, (a, tt)))))

-- An answer's other part is a `Result`, which is no number.
pub added_parts : (r : Added) → Fits added_struct r → Fits queue_struct r.queue
added_parts r is = (owed A.the_type A'.the_laws r (val added_struct r ∷ []) is).0

pub removed_parts : (r : Removed) → Fits removed_struct r → Fits queue_struct r.queue
removed_parts r is = (owed R.the_type R'.the_laws r (val removed_struct r ∷ []) is).0
