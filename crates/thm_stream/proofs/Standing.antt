-- Where a run of calls under the ceiling c is: the bytes taken are whole frames and then the bytes held, and the uncut reading says so too.
-- Each call of the deframer goes from one such place to the next
use Prim.Native.Nat.{ℕ, ◌+◌, ◌-◌, ◌≤◌, ◌<◌}
use mathlib.Core.Path.{◌≡◌, refl, sym, ap, subst, ◌∙◌}
use mathlib.Core.List.{List, [], ◌∷◌, ◌++◌, append_assoc, append-nil}
use mathlib.Core.Bool.{Bool, true, false, cond}
use native.Mathlib.Omega.{arith}
use native.Mathlib.Decide.{dec_lt, ℕ_discrete}
use borrow.Author.Tests.{le-ltb, lt-ltb, eq-eqb, ne_eqb}
use lib.Dec.{eqb}
use lib.ListN.{length, take, drop, length-append}
use lib.Seq.{length-take-le, take_all, take-take}
use Rattle.fixed_header.specs.Header.{CeilingOk, header_error, total_of}
use Rattle.deframer.specs.Deframe.{Out, fresh, known_of, stream, moved, advance, unmoved, deframed, ended, is_refused}
use Rattle.deframer.specs.Stream.{Uncut, stops, uncut, laid}
use Rattle.thm_stream.specs.Calls.{frame_in, Unrefused, Gave, Rest}
use Rattle.deframer.specs.declared.Deframer.{Deframer}
use Rattle.deframer.specs.Progress.{Frame, NeedMore, Refused}
use Rattle.deframer.specs.End.{End}
use Rattle.deframer.specs.End as end
use Rattle.deframer.proofs.Lists.{stream_length, stream_head, stream_reach}
use Rattle.laws.proofs.Lists.{land_length, land_take, land_head}
use Rattle.fixed_header.proofs.Codes.{ceiling_ok_lem, good_total}
use Rattle.deframer.proofs.Known.{known_short, known_total, known_good, known_bad, known_code, held_fits}
use Rattle.deframer.proofs.Advance.{next_short, next_bad, next_part, next_whole, Shape, short}
use Rattle.deframer.proofs.Advance.{bad, part, whole, shape, call_refused_lem, call_moves}
use Rattle.deframer.proofs.Uncut.{uncut_short, uncut_bad, uncut_part, Whole, uncut_frame}

-- ---- frames
laid_snoc : (fs : List (List ℕ)) (f : List ℕ) → laid (fs ++ (f ∷ [])) ≡ laid fs ++ f
laid_snoc [] f = append-nil f
laid_snoc (g ∷ fs) f = ap (λ (x : List ℕ). g ++ x) (laid_snoc fs f) ∙ sym (append_assoc g (laid fs) f)

-- frames first, and then what the rest reads as
abbrev pub prefixed : List (List ℕ) → Uncut → Uncut
prefixed fs u = record { frames = fs ++ u.frames; end = u.end }

module _ (c : ℕ) where
  -- ---- the bytes that a known state holds
  module _ (st : Deframer) (d : List ℕ) (in_range : CeilingOk c) (big : c ≤ length d) (known : known_of c st d ≡ true) where
    ended_free : st.error ≡ 0 → ended c st d ≡ cond (eqb st.held 0) end.Clean (end.Short st.held)
    unfolding ended
    ended_free z = simp (ceiling_ok_lem c in_range, le-ltb _ _ big, known, eq-eqb _ _ z)

    pub ended_refused : (st.error ≡ 0 → ⊥) → ended c st d ≡ end.Refused st.error
    unfolding ended
    ended_refused n = simp (ceiling_ok_lem c in_range, le-ltb _ _ big, known, ne_eqb _ _ n)

    -- read uncut, they end as the state does
    pub uncut_held : uncut c (take st.held d) ≡ stops (ended c st d)
    uncut_held = go (ℕ_discrete st.error 0)
      where
        n : length (take st.held d) ≡ st.held
        n = length-take-le st.held d (held_fits c in_range st d big known)

        free : st.error ≡ 0 → Dec (st.held < 16) → uncut c (take st.held d) ≡ stops (ended c st d)
        free z (yes p) = uncut_short c (take st.held d) (omega (arith, n)) ∙ rw (n, ended_free z)
        free z (no p) =
            let g = known_good c st d z known (omega arith) in
            let t : take 16 (take st.held d) ≡ take 16 d = take-take 16 st.held d (omega arith) in
            uncut_part c (take st.held d) (omega (arith, n)) (rw t g.0) (rw t (omega (arith, n)))
            ∙ rw (n, ended_free z, ne_eqb st.held 0 (omega arith))

        go : Dec (st.error ≡ 0) → uncut c (take st.held d) ≡ stops (ended c st d)
        go (yes z) = free z (dec_lt st.held 16)
        go (no z) =
            let g = known_bad c st d z known in
            let t : take 16 (take st.held d) ≡ take 16 d = take-take 16 st.held d (omega arith) in
            uncut_bad c (take st.held d) (omega (arith, n)) (rw (t, g.1) z) ∙ rw (t, g.1, ended_refused z)

    pub rest_held : Rest c (ended c st d) (take st.held d)
    rest_held = go (ℕ_discrete st.error 0) (ℕ_discrete st.held 0)
      where
        go : Dec (st.error ≡ 0) → Dec (st.held ≡ 0) → Rest c (ended c st d) (take st.held d)
        go (yes z) (yes h) =
            let e : ended c st d ≡ end.Clean = rw (ended_free z, eq-eqb _ _ h) in
            subst (λ (e : End). Rest c e (take st.held d)) (sym e) (ap (λ (k : ℕ). take k d) h)
        go (yes z) (no h) =
            let e : ended c st d ≡ end.Short st.held = rw (ended_free z, ne_eqb _ _ h) in
            subst (λ (e : End). Rest c e (take st.held d)) (sym e) (length-take-le st.held d (held_fits c in_range st d big known))
        go (no n) h =
            let g = known_bad c st d n known in
            subst (λ (e : End). Rest c e (take st.held d)) (sym (ended_refused n)) (
              length-take-le st.held d (held_fits c in_range st d big known) ∙ g.0,
              ap (λ (k : ℕ). header_error c (take k d)) g.0 ∙ g.1,
            )

    pub free_unrefused : st.error ≡ 0 → Unrefused (ended c st d)
    free_unrefused z = subst Unrefused (sym (ended_free z)) (go (eqb st.held 0))
      where
        go : (b : Bool) → Unrefused (cond b end.Clean (end.Short st.held))
        go true = tt
        go false = tt

  -- ---- where a run is
  pub record At (seen : List ℕ) (fs : List (List ℕ)) (st : Deframer) (d : List ℕ) : Type 0 where
    pub in_range : CeilingOk c
    pub big : c ≤ length d
    pub known : known_of c st d ≡ true
    pub tiles : laid fs ++ take st.held d ≡ seen
    pub reads : (t : List ℕ) → uncut c (laid fs ++ t) ≡ prefixed fs (uncut c t)

  module _ {seen : List ℕ} {fs : List (List ℕ)} {st : Deframer} {d : List ℕ} (a : At seen fs st d) where
    uncut_seen : uncut c seen ≡ prefixed fs (stops (ended c st d))
    uncut_seen =
        ap (uncut c) (sym a.tiles) ∙ a.reads (take st.held d)
        ∙ ap (prefixed fs) (uncut_held st d a.in_range a.big a.known)

    pub seen_frames : (uncut c seen).frames ≡ fs
    seen_frames = ap (λ (u : Uncut). u.frames) uncut_seen ∙ append-nil fs

    pub seen_end : (uncut c seen).end ≡ ended c st d
    seen_end = ap (λ (u : Uncut). u.end) uncut_seen

  -- ---- a call of the deframer
  pub record Stepped (seen : List ℕ) (fs : List (List ℕ)) (p : List ℕ) (o : Out) : Type 0 where
    pub gave :
        Gave o.step.progress (uncut c seen) (uncut c (seen ++ take o.step.taken p)) (seen ++ take o.step.taken p) p
        (take o.step.taken p) o.buffer
    pub at : At (seen ++ take o.step.taken p) (fs ++ frame_in o.step.progress o.buffer) o.step.next o.buffer
    pub goes_on : o.step.next.error ≡ 0 → is_refused o.step.progress ≡ false
    pub stopped : (code : ℕ) → o.step.progress ≡ Refused code → (o.step.next.error ≡ code) × (code ≡ 0 → ⊥)

  module _ (seen : List ℕ) (fs : List (List ℕ)) (st : Deframer) (d p : List ℕ) (a : At seen fs st d) where
    -- nothing is taken, and nothing moves
    refused : (st.error ≡ 0 → ⊥) → Stepped seen fs p (unmoved st.error st d)
    refused n =
        let none = append-nil seen in
        let at : At (seen ++ []) (fs ++ []) st d = rw (none, append-nil) a in
        let e : uncut c (seen ++ []) ≡ uncut c seen = ap (uncut c) none in
        let g = known_bad c st d n a.known in
        record {
          gave = (
            ap (λ (u : Uncut). u.frames) e,
            seen_end at ∙ ended_refused st d a.in_range a.big a.known n,
            ap (λ (x : List (List ℕ)). length (laid x) + 16) (seen_frames at)
                ∙ rw append-nil (omega (
                  arith,
                  length-append (laid fs) (take st.held d),
                  length-take-le st.held d (held_fits c a.in_range st d a.big a.known),
                  ap length a.tiles,
                  ap length none,
                  g.0,
                )),
          );
          at = at;
          goes_on = λ z. absurd (n z);
          stopped = λ code q. (cc, λ z. n (cc));
        }

    module _ (free : st.error ≡ 0) where
      l : List ℕ
      l = stream st.held d p

      fits : st.held ≤ length d
      fits = held_fits c a.in_range st d a.big a.known

      len : length l ≡ st.held + length p
      unfolding l
      len = stream_length d p st.held fits

      head : 16 ≤ st.held → take 16 l ≡ take 16 d
      unfolding l
      head h = stream_head d p st.held fits 16 h

      -- the first k bytes of the stream are in the buffer: the bytes seen, and those taken
      module _ (k : ℕ) (h : st.held ≤ k) (g : k ≤ length l) (room : k ≤ length d) where
        extend : laid fs ++ take k (take k l ++ drop k d) ≡ seen ++ take (k - st.held) p
        unfolding l
        extend =
            ap (λ (x : List ℕ). laid fs ++ x) (land_take k l d g room ∙ sym (stream_reach d p st.held fits k h))
            ∙ sym (append_assoc (laid fs) (take st.held d) (take (k - st.held) p))
            ∙ ap (λ (x : List ℕ). x ++ take (k - st.held) p) a.tiles

        keeps : (code : ℕ) → known_of c (record { held = k; error = code }) (take k l ++ drop k d) ≡ true
            → At (seen ++ take (k - st.held) p) (fs ++ []) (record { held = k; error = code }) (take k l ++ drop k d)
        keeps code known =
            rw append-nil (record {
              in_range = a.in_range;
              big = rw (land_length k l d g room) a.big;
              known = known;
              tiles = extend;
              reads = a.reads;
            })

      -- more is needed: all of the piece is taken
      more : length l ≤ length d → known_of c (record { held = length l; error = 0 }) (take (length l) l ++ drop (length l) d) ≡ true
          → Stepped seen fs p (moved NeedMore st.held d l)
      more room known =
          let at = keeps (length l) (omega (arith, len)) (omega arith) room 0 known in
          record {
            gave = (
              seen_frames at ∙ append-nil fs ∙ sym (seen_frames a),
              take_all (length l - st.held) p (omega (arith, len)),
              subst Unrefused (sym (seen_end at)) (free_unrefused _ _ at.in_range at.big at.known refl),
            );
            at = at;
            goes_on = λ z. refl;
            stopped = λ code q. let z : ◌≡◌ {A = ℕ} 0 1 = cc in absurd (omega arith);
          }

      -- a header is refused: it ends the bytes taken
      bad_header : 16 ≤ length l → (header_error c (take 16 l) ≡ 0 → ⊥) → st.held < 16
          → Stepped seen fs p (moved (Refused (header_error c (take 16 l))) st.held d l)
      bad_header h b under =
          let room : 16 ≤ length d = omega (arith, a.big) in
          let code = header_error c (take 16 l) in
          let e : header_error c (take 16 (take 16 l ++ drop 16 d)) ≡ code = ap (header_error c) (land_head 16 l d h room 16 (omega arith)) in
          let known : known_of c (record { held = 16; error = code }) (take 16 l ++ drop 16 d) ≡ true =
          known_code c (record { held = 16; error = code }) (take 16 l ++ drop 16 d) b a.in_range
          (omega (arith, land_length 16 l d h room)) refl
          ∙ eq-eqb _ _ e in
          let at = keeps 16 (omega arith) h room code known in
          record {
            gave = (
              seen_frames at ∙ append-nil fs ∙ sym (seen_frames a),
              seen_end at ∙ ended_refused _ _ at.in_range at.big at.known b,
              ap (λ (x : List (List ℕ)). length (laid x) + 16) (seen_frames at)
                  ∙ omega (
                    arith,
                    ap length at.tiles,
                    length-append (laid (fs ++ [])) (take 16 (take 16 l ++ drop 16 d)),
                    length-take-le 16 (take 16 l ++ drop 16 d) (omega (arith, land_length 16 l d h room)),
                  ),
            );
            at = at;
            goes_on = λ z. absurd (b z);
            stopped = λ n q. (cc, λ z. b (cc));
          }

      -- a frame is whole: it is at the start of the buffer
      whole_frame : 16 ≤ length l → header_error c (take 16 l) ≡ 0 → total_of (take 16 l) ≤ length l → st.held ≤ total_of (take 16 l)
          → Stepped seen fs p (moved (Frame (total_of (take 16 l))) st.held d l)
      whole_frame h e t under =
          let size = total_of (take 16 l) in
          let bounds = good_total c (take 16 l) e in
          let room : size ≤ length d = omega (arith, a.big) in
          let d' = take size l ++ drop size d in
          let big : length d' ≡ length d = land_length size l d t room in
          let f = take size d' in
          let n : length f ≡ size = length-take-le size d' (omega arith) in
          let first : take 16 f ≡ take 16 l = take-take 16 size d' bounds.0 ∙ land_head size l d t room 16 bounds.0 in
          let w : Whole c f = record { long = omega arith; good = ap (header_error c) first ∙ e; all = ap total_of first ∙ sym n } in
          let at : At (seen ++ take (size - st.held) p) (fs ++ (f ∷ [])) fresh d' =
          record {
            in_range = a.in_range;
            big = rw big a.big;
            known = known_short c fresh d' refl (omega arith);
            tiles = append-nil (laid (fs ++ (f ∷ []))) ∙ laid_snoc fs f ∙ extend size under t room;
            reads = λ r.
                ap (λ (x : List ℕ). uncut c (x ++ r)) (laid_snoc fs f) ∙ ap (uncut c) (append_assoc (laid fs) f r) ∙ a.reads (f ++ r)
                ∙ ap (prefixed fs) (uncut_frame c f r w)
                ∙ ap (λ (x : List (List ℕ)). record { frames = x; end = (uncut c r).end })
                (sym (append_assoc fs (f ∷ []) (uncut c r).frames));
          } in
          record {
            gave = (
              seen_frames at ∙ ap (λ (x : List (List ℕ)). x ++ (f ∷ [])) (sym (seen_frames a)),
              n,
              seen_end at ∙ ended_free fresh d' at.in_range at.big at.known refl,
            );
            at = at;
            goes_on = λ z. refl;
            stopped = λ code q. let z : ◌≡◌ {A = ℕ} 0 1 = cc in absurd (omega arith);
          }

      -- bytes held past a header have a good one, with a total above their number
      under_bad : (header_error c (take 16 l) ≡ 0 → ⊥) → Dec (st.held < 16) → st.held < 16
      under_bad b (yes q) = q
      under_bad b (no q) = absurd (b (rw (head (omega arith)) (known_good c st d free a.known (omega arith)).0))

      under_total : 16 ≤ total_of (take 16 l) → Dec (st.held < 16) → st.held ≤ total_of (take 16 l)
      under_total t (yes q) = omega arith
      under_total t (no q) = rw (head (omega arith)) (omega (arith, known_good c st d free a.known (omega arith)))

      moves : Shape c l → Stepped seen fs p (advance c st.held d l)
      moves (short q) = rw (next_short c l q) (more (omega (arith, a.big)) (known_short c _ _ refl q))
      moves (part q e t) =
          let room : length l ≤ length d = omega (arith, good_total c (take 16 l) e, a.big) in
          let first = land_head (length l) l d (omega arith) room 16 q in
          let good : header_error c (take 16 (take (length l) l ++ drop (length l) d)) ≡ 0 = rw first e in
          let size : length l < total_of (take 16 (take (length l) l ++ drop (length l) d)) = rw first t in
          rw (next_part c l q e t) (more room (known_total c (record { held = length l; error = 0 }) _ refl q good ∙ lt-ltb _ _ size))
      moves (bad q b) = rw (next_bad c l q b) (bad_header q b (under_bad b (dec_lt st.held 16)))
      moves (whole q e t) =
          rw (next_whole c l q e t) (whole_frame q e t (under_total (good_total c (take 16 l) e).0 (dec_lt st.held 16)))

    pub stepped : Stepped seen fs p (deframed c st d p)
    unfolding l
    stepped = go (ℕ_discrete st.error 0)
      where
        go : Dec (st.error ≡ 0) → Stepped seen fs p (deframed c st d p)
        go (yes z) = rw (call_moves c st d p a.in_range a.big a.known z) (moves z (shape c (stream st.held d p)))
        go (no n) = rw (call_refused_lem c st d p a.in_range a.big a.known n) (refused n)
