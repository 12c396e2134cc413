-- A struct of a pointer and an allocator that owns the box at the pointer. Assumes `Logic`.
--     word      its machine value
--     apart     it is [the box's memory with the right to free it; the allocator]
--     together  and the way back
use Rattle.std.proofs.Common.{◌≡◌, ℕ, List, [], ◌∷◌, ◌++◌, refl, subst}
use lib.Dec.{T}
use mathlib.Core.Bool.{Bool, ◌&&◌, true, false}
use seplogic.Ra.Ura.{Ura}
use mir.Syntax.{Ty, impl, tnil, dnil}
use mir.Raw.{raw as bare}
use mir.Val.{Val, vptr, vstruct, vcons, vnil, of_list, has_ty, WT}
use base.Logic.{never, fst∗}
use base.Fml.{Fml, ftrue, fsep}
use types.Logic.{Logic, sem}
use types.Kit.{Item, Goal, Seq, Step, step, ‵, ◌$◌, move, drop, fsplit, fjoin, fpick, fpack, feq_i, feq_l}
use denote.RattleType.{RattleType, Valss}
use denote.Builtin.{RawPtr}
use denote.Memory.{lone}
use denote.RawPtr.{Ptr, block_ptr, null_ptr, ptr_val, in_a_block}
use denote.Steps.{nothing}
use denote.Param.{layout}
use denote.Param.Laws.{Laws}
use denote.Struct.Struct.{Struct, within}
use Rattle.std.proofs.alloc.Calls.{Al, handle_tells}
use Rattle.std.specs.Box.Ownership.{box_owns}

-- a value of its type
abbrev pub Good : Ty → Val → Type 0
Good τ v = T (has_ty τ v) × WT v

with_true : (x : Bool) → T x → T (x && true)
with_true true t = tt
with_true false t = absurd t

abbrev pub word : ℕ → ℕ → Val → Val
word b o h = vstruct (vcons (vptr b o) (vcons h vnil))

module _ (R Z : RattleType) (L : Laws Z) where
  abbrev al : Al
  al = record { row = Z; laws = L; g = record { dealloc_token = λ a τ p. ftrue }; d = impl [] tnil dnil; drops = impl [] tnil dnil }

  abbrev pub Parts : RattleType
  Parts = Struct (record { name = []; args = []; types = []; fields = RawPtr ∷ Z ∷ [] })

  pub word_good : (b o : ℕ) (h : Val) → Good (layout Z) h → T (has_ty (layout Z) h && true) × WT (word b o h)
  word_good b o h fits = (with_true (has_ty (layout Z) h) fits.0, (tt, (fits.1, tt)))

  module _ {M : Type 1} {𝓤 : Ura M} {𝓛 : Logic 𝓤} {K : Type 0} {Γ : List (Item 𝓤)} {G : Goal 𝓤 𝓛.H} (hold : Ty → Ptr → Fml) where
    pub apart : K → (p : Ptr) (a : Z.Denot) (x : R.Denot) (vs : List Val)
        → ((b o : ℕ) (h : Val) → p ≡ block_ptr b o → vs ≡ word b o h ∷ [] → Good (layout Z) h
        → Seq K 𝓛 (‵ (box_owns hold R (block_ptr b o) x) ∷ ‵ (Z.own_val a (h ∷ [])) ∷ Γ) G)
        → Seq K 𝓛 (‵ (fsep (Parts.own_val (p, (a, tt)) vs) (box_owns hold R p x)) ∷ Γ) G
    apart t p a x vs next =
        fsplit t $ fpick t (λ vss. fsplit t $ feq_l t (λ whole_is. fsplit t $ feq_l t (λ pointer_is. fsplit t $
        handle_tells al t a vss.1.0 (λ h handle_is fits. move t (1 ∷ []) $ drop t $ move t (1 ∷ []) $
        in_a_block t p (λ q. box_owns hold R q x) (fst∗ 𝓤 (never 𝓤) (sem 𝓛 (hold (bare (lone R.mir)) null_ptr))) (λ b o at.
        let told = subst (λ (ps : List Val). vs ≡ vstruct (of_list (ps ++ (vss.1.0 ++ []))) ∷ []) pointer_is whole_is in
        let read = subst (λ (hs : List Val). vs ≡ vstruct (of_list (ptr_val p ∷ (hs ++ []))) ∷ []) handle_is told in
        next b o h at (subst (λ (q : Ptr). vs ≡ vstruct (of_list (ptr_val q ∷ h ∷ [])) ∷ []) at read) fits)))))

    pub together : K → (b o : ℕ) (h : Val) (a : Z.Denot) (x : R.Denot)
        → Step K 𝓛 (‵ (fsep (Parts.own_val (block_ptr b o, (a, tt)) (word b o h ∷ [])) (box_owns hold R (block_ptr b o) x)) ∷ Γ) G
        (‵ (box_owns hold R (block_ptr b o) x) ∷ ‵ (Z.own_val a (h ∷ [])) ∷ Γ) G
    together t b o h a x = step (λ rest.
        nothing t $ move t (2 ∷ 0 ∷ []) $ fjoin t $ feq_i t (List Val) (vptr b o ∷ []) (vptr b o ∷ []) refl $ fjoin t $
        feq_i t (List Val) (word b o h ∷ []) (word b o h ∷ []) refl $ fjoin t $
        fpack t (Valss (RawPtr ∷ Z ∷ [])) (within (record { name = []; args = []; types = []; fields = RawPtr ∷ Z ∷ [] }) (block_ptr b o, (a, tt)) (word b o h ∷ [])) (vptr b o ∷ [], (h ∷ [], tt)) $
        fjoin t $ rest)
