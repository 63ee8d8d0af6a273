-- The six kinds of frames: the message that each holds, and its schema number
use Rattle.std.specs.Prelude.{ℕ}
use Rattle.schema.specs.Schema.{Schema, done, request, response, init, feedback, close}
use Rattle.schema.specs.declared.Kind.{Kind}
use Rattle.schema.specs.declared.Kind.TheVariants as kinds

-- the message that a kind of frame holds; "Data has only a body"
abbrev pub schema_of : Kind → Schema
schema_of kinds.Request = request
schema_of kinds.Response = response
schema_of kinds.Init = init
schema_of kinds.Data = done
schema_of kinds.Feedback = feedback
schema_of kinds.Close = close

-- its number: `numbered` in proofs/KindLaws says that the number names this message
abbrev pub schema_number : Kind → ℕ
schema_number kinds.Request = 0
schema_number kinds.Response = 1
schema_number kinds.Init = 2
schema_number kinds.Data = 3
schema_number kinds.Feedback = 4
schema_number kinds.Close = 5
