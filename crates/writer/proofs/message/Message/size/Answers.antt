-- Kind by kind.
use mathlib.Core.Path.{refl}
use native.Mathlib.Omega.{arith}
use Rattle.writer.specs.Straight.{size_by}
use Rattle.writer.proofs.message.Message.size.Goals as goal

pub returns-in-Data : goal.returns-in-Data
unfolding size_by
returns-in-Data c = rw c.in-Data.is (refl, omega arith)

pub returns-in-Feedback : goal.returns-in-Feedback
unfolding size_by
returns-in-Feedback c = rw c.in-Feedback.is (omega arith, omega arith)

pub returns-in-Request : goal.returns-in-Request
returns-in-Request c =
    rw c.in-Request.is c.request_size.ensures

pub returns-in-Response : goal.returns-in-Response
returns-in-Response c =
    rw c.in-Response.is c.response_size.ensures

pub returns-in-Init : goal.returns-in-Init
returns-in-Init c =
    rw c.in-Init.is c.init_size.ensures

pub returns-in-Close : goal.returns-in-Close
returns-in-Close c =
    rw c.in-Close.is c.close_size.ensures
