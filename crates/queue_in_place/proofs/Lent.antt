-- Steps of a walk by hand (the kit's `Types/Kit.antt`) over structs that are lent by `&mut`, and over calls of functions by value.
-- They hold for every declared struct that owns only facts, and in any context.
--     PlainStruct      such a struct, with its laws
--     Lent, Open       the borrow as a walk carries it, and while it is open
--     copies           `_i = *_p`: the borrow is opened, the struct is read, and the borrow is closed as it was
--     replaces         `*_p = rv`: the borrow is opened, the struct is overwritten, and the borrow is closed at the new value
--     calls-plain      a call by value, up to where its answer is stored: of the answer there is left what the callee's `ensures` says
--     of-local         an operand that is a local, wherever the code says which
--     hands-back       a borrow is what the reference owns
--     leaves           a local is freed, whatever it holds
--     lends, a-number  what is left of a parameter at exit, with the law of each: goes-lent, goes_number
--     concludes        a walk of a function's MIR, with the contract of the one function that it calls, is the function's contract
-- Assumes `Logic`.
use mathlib.Core.Path.{◌≡◌, refl, ap, subst}
use Prim.Native.Nat.{ℕ, zero, ◌+◌, ◌*◌, ◌-◌}
use mathlib.Core.List.{List, [], ◌∷◌}
use seplogic.Ra.Ura.{Ura}
use base.Fraction.{full_share}
use lib.Dec.{T}
use mir.Syntax.{Callee, Ty, Place, place, Opd as Operand, copy, Rv as RValue, Body as Code, Fn, seq, assign, call}
use mir.Val.{Val, vptr, WT, has_ty}
use base.Logic.{SProp, ent, emp}
use base.Fml.{Fml, GName, Lft, Share, ftrue, feq, fsep, fat, fdies, flft, fobs, fauth, fbor, fobor}
use prog.Model.{Model}
use prog.Routine as routines
use prog.Wp.{Env, Spot, spot_of, Calls, Loops, WpFn, Closed}
use types.Logic.{Logic}
use contract.Monad.{fact}
use contract.Running.{Running, tables, tables_of}
use sound.WpLaws.{FmC, fm_of, WpFn-mono}
use types.Kit.{Item, ‵, raw, mean, nth, ◌⊛◌, some, later, Goal, Soaks, Post, runs, lands, frees, Seq, Step, step, ◌$◌, move, drop}
use types.Kit.{split, pick, use0, use1, feq_i, fjoin3, await, regoal}
use types.Run.{Rv, Finds, Opd, Opds, Writes, load, from, stop, look, assigns, store_raw, forget, free1}
use types.SemTy.{Body}
use denote.RattleType.{RattleType}
use denote.Exit.{yes, Last, left}
use denote.Signature.{AllWithin, plain, mut_ref_to}
use denote.Laws.{Is, shows}
use denote.Memory.{cell_at, mem}
use denote.Steps.{only, opens, closes, owned, facts, heard}
use denote.Struct.Declared.{Declared, fields, shape, row}
use denote.Struct.Laws as LL
use denote.Struct.Laws.{Laws, makes, lawful}
use denote.Struct.Steps.{spelt}
use denote.Struct.Struct.{Plains, layout}
use denote.Triple.Call.{calls_at}
use denote.Triple.Clauses.{Clauses, Ended, closing}
use denote.Triple.Spec.{triple_of}
use denote.Triple.Statement.{Contract, Triple}
use denote.Triple.Table.{entered, cited}
use denote.Triple.Walked.{Stay, Stays, stay_ref, stay_dropped, Goes, Goes-ref, Goes-dropped, AllGo, Walks, walk_Meets}

pub record PlainStruct : Type 2 where
  pub type : Declared
  pub laws : Laws type
  pub plain : Plains (fields type)

-- its values, its machine values, and which of these a value has
abbrev pub Value : PlainStruct → Type 0
Value S = S.type.D

abbrev pub val : (S : PlainStruct) → Value S → Val
val S h = LL.val S.type S.laws h

abbrev pub Fits : (S : PlainStruct) → Value S → Type 0
Fits S h = Is (row S.type) h (val S h ∷ [])

-- what was last seen there, the borrow and its lifetime's token
abbrev pub Lent :
    {M : Type 1} {𝓤 : Ura M} (S : PlainStruct) (κ : Lft) (q : Share) (γ : GName) (b o : ℕ) → Value S → List (Item 𝓤) → List (Item 𝓤)
Lent S κ q γ b o h Γ = ‵ (fobs γ ((row S.type).coded.code h)) ∷ ‵ (fbor κ (Body (mem (row S.type)) b o γ)) ∷ ‵ (flft κ q) ∷ Γ

-- the struct's cell, the open borrow and its two ghost values
abbrev Opened :
    {M : Type 1} {𝓤 : Ura M} (S : PlainStruct) (κ : Lft) (q : Share) (γ : GName) (b o : ℕ) → (now seen : Value S) → List (Item 𝓤)
    → List (Item 𝓤)
Opened S κ q γ b o h' h Γ =
    ‵ (cell_at full_share (row S.type).mir (val S h' ∷ []) b o) ∷ ‵ (fobor κ q (Body (mem (row S.type)) b o γ))
    ∷ ‵ (fobs γ ((row S.type).coded.code h)) ∷ ‵ (fauth γ ((row S.type).coded.code h)) ∷ Γ

abbrev pub Open :
    {M : Type 1} {𝓤 : Ura M} (S : PlainStruct) (κ : Lft) (q : Share) (γ : GName) (b o : ℕ) → Value S → List (Item 𝓤) → List (Item 𝓤)
Open S κ q γ b o h Γ = Opened S κ q γ b o h h Γ

-- the answer of a function by value: some r is owned, and `ensures r` is said of it
abbrev pub Answer : {M : Type 1} {𝓤 : Ura M} (S : PlainStruct) → (Value S → SProp 𝓤) → Val → Item 𝓤
Answer S ensures v = later (some (λ (r : Value S). (‵ ftrue ⊛ ‵ ((row S.type).own_val r (v ∷ []))) ⊛ raw (ensures r)))

-- what is left of a parameter at exit: a struct lent for the lifetime i is handed back, of a number nothing is left
module _ (n : ℕ) where
  abbrev pub lends :
      (i : ℕ) (ok : AllWithin n (i ∷ [])) (S : PlainStruct) → Stay {n = n} (mut_ref_to (i ∷ []) ok (plain (λ _. row S.type))) yes
  lends i ok S = stay_ref (i ∷ []) ok (plain (λ _. row S.type))

  abbrev pub a_number : (T : RattleType) → Stay {n = n} (plain (λ _. T)) yes
  a_number T = stay_dropped (plain (λ _. T)) yes

module _ {M : Type 1} {𝓤 : Ura M} (𝓛 : Logic 𝓤) (n : ℕ) where
  pub goes_lent :
      (i : ℕ) (ok : AllWithin n (i ∷ [])) (S : PlainStruct)
      → Goes 𝓛 n (mut_ref_to (i ∷ []) ok (plain (λ _. row S.type))) yes (lends n i ok S)
  goes_lent i ok S = Goes-ref 𝓛 n i ok (plain (λ _. row S.type))

  pub goes_number :
      (T : RattleType) → ((x : T.Denot) (f : Last (T.exit yes) x) → left (T.exit yes) x f ≡ ftrue)
      → Goes 𝓛 n (plain (λ _. T)) yes (a_number n T)
  goes_number T silent = Goes-dropped 𝓛 n (plain (λ _. T)) yes (λ κs x f. silent x f)

module _ {M : Type 1} {𝓤 : Ura M} (𝓛 : Logic 𝓤) where
  pub typed : (S : PlainStruct) (h : Value S) → Fits S h → T (has_ty (layout (shape S.type)) (val S h)) × WT (val S h)
  typed S h is = ((lawful S.type S.laws 𝓛).typed h (val S h ∷ []) is).0

module _ {M : Type 1} {𝓤 : Ura M} {𝓛 : Logic 𝓤} {K : Type 0} {Γ : List (Item 𝓤)} where
  open 𝓛 use {H}

  module _ {G : Goal 𝓤 H} where
    -- what a plain struct owns is had for nothing
    pub made : K → (S : PlainStruct) (h : Value S) → Fits S h → Step K 𝓛 (‵ ((row S.type).own_val h (val S h ∷ [])) ∷ Γ) G Γ G
    made t S h is = owned t (row S.type) (Is (row S.type)) (makes S.type S.plain 𝓛) h (val S h ∷ []) is

    pub hands_back :
        K → (b o : ℕ) {P R : Fml} → Step K 𝓛 (‵ (fsep (feq (List Val) (vptr b o ∷ []) (vptr b o ∷ [])) (fsep P R)) ∷ Γ) G (‵ P ∷ ‵ R ∷ Γ) G
    hands_back t b o = step (λ s. feq_i t (List Val) (vptr b o ∷ []) (vptr b o ∷ []) refl $ fjoin3 t $ s)

  -- a copy of local i, where the n locals are from entry k on: the last one first, and after each the entry that frees it
  pub of_local :
      K → (k n : ℕ) {E : Env 𝓤 H} {i : ℕ} {q : Share} {v : Val}
      → nth 𝓛 (k + 2 * (n - 1 - i)) Γ ≡ ‵ (fat q (spot_of 𝓤 H E i).0 (spot_of 𝓤 H E i).1 zero v) → Opd K 𝓛 Γ E (copy (place i [])) v
  of_local t k n {E} {i} e = load t (from t (stop t)) (look t (k + 2 * (n - 1 - i)) e)

  pub leaves :
      K → {τ : Ty} {b : ℕ} {v : Val} {E : Env 𝓤 H} {g : Goal 𝓤 H}
      → Step K 𝓛 Γ (frees E g) (‵ (fat full_share τ b zero v) ∷ ‵ (fdies τ b) ∷ Γ) (frees ((τ, b) ∷ E) g)
  leaves t = step (λ s. forget t 0 refl $ free1 t $ s)

module _
    {M : Type 1} {𝓤 : Ura M} {𝓛 : Logic 𝓤} {K : Type 0} {Γ : List (Item 𝓤)} {G : Goal 𝓤 𝓛.H} (t : K)
    (z : Soaks G) (S : PlainStruct) {κ : Lft} {q : Share} {γ : GName} (b o : ℕ) where
  opening : (h : Value S) → (Fits S h → Seq K 𝓛 (Open S κ q γ b o h Γ) G) → Seq K 𝓛 (Lent S κ q γ b o h Γ) G
  opening h k =
      opens t z (row S.type) {h = h} b o
      (λ vs. spelt t (row S.type) (Is (row S.type)) (shows 𝓛 (row S.type)) (LL.vals S.type S.laws)
      (LL.tells S.type S.laws) full_share h vs b o $
      move t (1 ∷ []) $ facts t (row S.type) (Is (row S.type)) (shows 𝓛 (row S.type)) h (val S h ∷ []) k)

  closing_at : (h h' : Value S) → Fits S h' → Step K 𝓛 (Lent S κ q γ b o h' Γ) G (Opened S κ q γ b o h' h Γ) G
  closing_at h h' is = step (λ s. made t S h' is $ move t (1 ∷ 0 ∷ []) $ closes t z (row S.type) h' (val S h' ∷ []) b o $ s)

module _
    {M : Type 1} {𝓤 : Ura M} {𝓛 : Logic 𝓤} {K : Type 0} {Γ : List (Item 𝓤)} {C : Calls 𝓤 𝓛.H} {Λ : Loops 𝓤 𝓛.H}
    {E : Env 𝓤 𝓛.H} {Q : Post 𝓤 𝓛.H} {rest : Code} where
  open 𝓛 use {H}

  module _ {κ : Lft} {q : Share} {γ : GName} {b o : ℕ} {p : Place} {rv : RValue} where
    pub copies :
        K → (S : PlainStruct) (h : Value S) {sp : Spot 𝓤 H} {Γ' : List (Item 𝓤)} → Rv K 𝓛 (Open S κ q γ b o h Γ) E rv (val S h)
        → Finds K 𝓛 (Open S κ q γ b o h Γ) E p sp
        → (Fits S h → Writes K 𝓛 (Open S κ q γ b o h Γ) sp.0 sp.1 sp.2 (val S h) (Open S κ q γ b o h Γ'))
        → (Fits S h → Seq K 𝓛 (Lent S κ q γ b o h Γ') (runs C Λ E rest Q))
        → Seq K 𝓛 (Lent S κ q γ b o h Γ) (runs C Λ E (seq (assign p rv) rest) Q)
    copies t S h r f w k = opening t tt S b o h (λ is. assigns t r f (w is) $ closing_at t tt S b o h h is $ k is)

    pub replaces :
        K → (S : PlainStruct) (h h' : Value S) → Fits S h' → Rv K 𝓛 (Open S κ q γ b o h Γ) E rv (val S h')
        → Finds K 𝓛 (Open S κ q γ b o h Γ) E p (layout (shape S.type), b, o)
        → Step K 𝓛 (Lent S κ q γ b o h' Γ) (runs C Λ E rest Q) (Lent S κ q γ b o h Γ) (runs C Λ E (seq (assign p rv) rest) Q)
    replaces t S h h' is r f =
        step (λ s. opening t tt S b o h (λ _. assigns t r f (store_raw t 0 refl (typed 𝓛 S h' is)) $ closing_at t tt S b o h h' is $ s))

  module _ {d : Place} where
    answered :
        K → (S : PlainStruct) (φ : Value S → Type 0) {ensures : Value S → SProp 𝓤} → ((r : Value S) → ent 𝓤 (ensures r) (fact 𝓤 (φ r)))
        → {v : Val}
        → ((r : Value S) → φ r → Fits S r → Seq K 𝓛 Γ (lands C Λ E d (val S r) rest Q))
        → Seq K 𝓛 (Answer S ensures v ∷ Γ) (lands C Λ E d v rest Q)
    answered t S φ told {v} k =
        await t tt $ pick t (λ r. split t $ move t (1 ∷ []) $ use1 𝓛 (raw (fact 𝓤 (φ r))) (told r) $ heard t (φ r) (λ e. split t $ drop t $
        facts t (row S.type) (Is (row S.type)) (shows 𝓛 (row S.type)) r (v ∷ [])
        (λ is. regoal t (λ (u : Val). lands C Λ E d u rest Q) (ap only (LL.tells S.type S.laws r (v ∷ []) is)) refl $
        k r e (subst (Is (row S.type) r) (LL.tells S.type S.laws r (v ∷ []) is) is))))

    -- c is the callee's contract and x what it is called with; what it asks is had for nothing, and its `post` is an `Answer`
    pub calls_plain :
        K → FmC 𝓤 H 𝓛.laws C → {f : Callee} {xs : List Operand} (c : Contract 𝓤) → Triple 𝓤 (C f) c → (x : c.Ghost)
        → ent 𝓤 (emp 𝓤) (c.pre x)
        → (S : PlainStruct) (φ : Value S → Type 0) (ensures : Value S → SProp 𝓤)
        → ((v : Val) → ent 𝓤 (c.post x v) (mean 𝓛 (Answer S ensures v))) → ((r : Value S) → ent 𝓤 (ensures r) (fact 𝓤 (φ r)))
        → Opds K 𝓛 (raw (c.pre x) ∷ Γ) E xs (c.args x) → ((r : Value S) → φ r → Fits S r → Seq K 𝓛 Γ (lands C Λ E d (val S r) rest Q))
        → Seq K 𝓛 Γ (runs C Λ E (seq (call f xs d) rest) Q)
    calls_plain t fm c known x asks S φ ensures gives told os k =
        use0 𝓛 (raw (c.pre x)) asks $ calls_at t fm c known x os (λ v. use1 𝓛 (Answer S ensures v) (gives v) $ answered t S φ told k)

module _
    {M : Type 1} {𝓤 : Ura M} (𝓛 : Logic 𝓤) (𝓜 : Model 𝓤 𝓛.H) (𝓡 : Running 𝓤 𝓛.H 𝓜) (T : Ended) (c : Clauses 𝓤 T)
    (hs : Stays T.signature.params T.kept) where
  open 𝓛 use {H}

  pub concludes :
      AllGo 𝓛 T.signature.lifetimes T.signature.params T.kept hs
      → (env : routines.Env) (key : Callee) (f : Fn) → Closed 𝓤 H (tables 𝓤 H 𝓜 𝓡 env).C (tables 𝓤 H 𝓜 𝓡 env).Λ key f
      → (d : Contract 𝓤) (callee : Callee) (routine : routines.Routine) → env callee ≡ routine → Triple 𝓤 (𝓡.run routine) d
      → ((C : Calls 𝓤 H) (Λ : Loops 𝓤 H) → FmC 𝓤 H 𝓛.laws C → Triple 𝓤 (C callee) d → Walks 𝓛 T hs (WpFn 𝓤 H C Λ f) c)
      → Triple 𝓤 ((tables 𝓤 H 𝓜 𝓡 env).C key) (triple_of 𝓛 T.signature (closing 𝓛 T c))
  unfolding tables_of
  concludes goes env key f closed d callee routine calls met walks =
      let C = (tables 𝓤 H 𝓜 𝓡 env).C in
      let Λ = (tables 𝓤 H 𝓜 𝓡 env).Λ in
      let machine = tables_of 𝓤 H 𝓜 (tables 𝓤 H 𝓜 𝓡 env) in
      entered 𝓤 H (triple_of 𝓛 T.signature (closing 𝓛 T c)) C Λ key f closed
      (walk_Meets 𝓛 T hs goes c (WpFn 𝓤 H C Λ f) (WpFn-mono 𝓤 H 𝓛.laws machine f)
      (walks C Λ (fm_of 𝓤 H 𝓛.laws machine) (cited 𝓤 H d 𝓜 𝓡 env callee routine calls met)))
