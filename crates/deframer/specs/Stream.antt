-- Document 01, "Cutting": the uncut reading, of the whole stream at once. It is fed bytes and a ceiling (document 02, P11: "the same
-- ceiling .. throughout, for the uncut reading too"), nothing of a state or a buffer
use Rattle.std.specs.Prelude.{ℕ, suc, zero, ◌≡◌, List, [], ◌∷◌, ◌++◌, cond, eqb, ltb, leb, length, take, drop}
use Rattle.fixed_header.specs.Header.{header_error, total_of}
use Rattle.deframer.specs.End.{End}
use Rattle.deframer.specs.End.{Clean, Short, Refused}

-- the frames, as bytes, and how the stream ends. What each frame's message reads as is a function of the frame's bytes, its kind and the
-- row numbers lent, so the layer of the messages maps that over `frames`
pub record Uncut : Type 0 where
  pub frames : List (List ℕ)
  pub end : End

-- it stops here
abbrev pub stops : End → Uncut
stops e = record { frames = []; end = e }

-- a frame first, and then it goes on after it
abbrev pub before : List ℕ → Uncut → Uncut
before frame u = record { frames = frame ∷ u.frames; end = u.end }

-- "With under 16 bytes left it stops: clean if none, else short with their number. If the judge refuses the next 16, it stops with that
-- number, whatever follows. If their total exceeds what is left, it stops: short with the number left. Otherwise the next bytes, as many
-- as the total, are a frame, .. and it goes on behind them." At most `fuel` steps: `uncut` has more than it needs, and by `enough` how many
-- more says nothing, so the clause for no fuel is never reached
unfoldable pub uncut_in : (c : ℕ) → ℕ → List ℕ → Uncut
uncut_in c zero s = stops Clean
uncut_in c (suc fuel) s =
    let rest = uncut_in c fuel (drop (total_of (take 16 s)) s) in
    cond (ltb (length s) 16) (stops (cond (eqb (length s) 0) Clean (Short (length s))))
    (cond (eqb (header_error c (take 16 s)) 0)
    (cond (leb (total_of (take 16 s)) (length s)) (before (take (total_of (take 16 s)) s) rest) (stops (Short (length s))))
    (stops (Refused (header_error c (take 16 s)))))

-- "It starts at the first byte." A frame has 16 bytes or more, so a stream has no more steps than bytes, and one to stop
unfoldable pub uncut : (c : ℕ) → List ℕ → Uncut
uncut c s = uncut_in c (suc (length s)) s

-- frames laid end to end
abbrev pub laid : List (List ℕ) → List ℕ
laid [] = []
laid (f ∷ fs) = f ++ laid fs

-- a is a start of b
abbrev pub Start : List ℕ → List ℕ → Type 0
Start a b = (more : List ℕ) × (a ++ more ≡ b)
