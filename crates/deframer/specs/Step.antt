-- "with it come the next state and the count taken"
use Rattle.std.specs.Prelude.{ℕ}
use Rattle.deframer.specs.declared.Deframer.{Deframer}
use Rattle.deframer.specs.Progress.{Progress}

pub record Step : Type 0 where
  pub progress : Progress
  pub next : Deframer
  pub taken : ℕ
