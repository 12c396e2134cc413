-- `live` lends what the handle points to, and the handle follows it.
use Rattle.std.proofs.Common.{◌≡◌, ℕ, List, [], ◌∷◌, refl, sym}
use seplogic.Ra.Ura.{Ura}
use base.Fraction.{full_share}
use mir.Syntax.{named}
use mir.Val.{Val, vptr}
use base.Logic.{SProp, ent, sep, id⊢}
use base.Fml.{Lft, GName, Share, Fml, ftrue, fsep, flft}
use prog.Wp.{Env}
use types.Logic.{Logic, sem}
use types.Kit.{‵, raw, ◌⊛◌, some, later, at_ret, ◌$◌, ◌∵◌, !, qed, move, keep, drop, use1, split, join, pick, fsplit, fsplit3, fjoin, fpack, suffices, frame, await, group, rewrite, done}
use types.Part.{whole, sub, look_in}
use types.Run.{stop, fld, load, of_opd, first, blocks, exec, returns, enter, addr}
use types.ByLocal.{alloc_all, pass_all, free_all, look_at, get, through, sets, sets_last, env}
use contract.Running.{tables}
use denote.RattleType.{RattleType, owns}
use denote.Memory.{part_at, mem, cell_at, part_of, lone}
use denote.RawPtr.{Ptr, block_ptr}
use denote.Ref.{MutRef, MutBor, mut_vals, mut_Tells}
use denote.Signature.{plain, mut_ref_to}
use denote.Steps.{nothing, opens}
use denote.Follow.{follows, Part, lends_Part}
use denote.Triple.Walked.{says, Stays, stay_dropped, walk_of, ends_at, Goes-spent_ref}
use mir.Raw.{raw as bare}
use Rattle.std.proofs.raw_atomic.Walks.{proved}
use Rattle.std.proofs.VecSteps.Shapes.{after}
use Rattle.std.specs.contracts.alloc.Global as global
use Rattle.std.proofs.alloc.Global.TheLaws as global_laws
use Rattle.odb_live.specs.declared.run.LiveRun.{LiveRun}
use Rattle.odb_ffi.specs.declared.handle.Handle.{Handle}
use Rattle.odb_ffi.specs.Handles.{with_live}
use Rattle.odb_ffi.proofs.AddressLemmas.{word, apart, together}
use Rattle.std.specs.contracts.impls.GlobalAllocator.TheImpl.{ghosts}
use Rattle.odb_ffi.specs.contracts.handle.Handle as handle
use Rattle.odb_live.specs.contracts.run.LiveRun as live_run
use Rattle.odb_ffi.specs.contracts.handle.Handle.live.{ended, clauses}
use Rattle.odb_ffi.specs.contracts.handle.Handle.live.Key.{name as #self}
use Rattle.odb_ffi.proofs.handle.Handle.live.Statement.{statement}
use Rattle.odb_ffi.proofs.handle.Handle.live.Code as code

abbrev R : RattleType
R = live_run.the_row

abbrev B : RattleType
B = handle.the_row

abbrev Z : RattleType
Z = global.the_row

abbrev stayed : Stays ended.signature.params ended.kept
stayed = (stay_dropped (mut_ref_to (0 ∷ []) tt (plain (λ _. B))) ended.kept.0, tt)

module _ {M : Type 1} {𝓤 : Ura M} (𝓛 : Logic 𝓤) (κ : Lft) (q : Share) (rb ro : ℕ) (γ : GName) (x : Handle) (b o : ℕ) (h : Val) where
  -- all of the handle but the live run
  abbrev Rest : Fml
  Rest = fsep (fsep (ghosts.dealloc_token x.alloc (bare (lone R.mir)) (block_ptr b o)) (Z.own_val x.alloc (h ∷ []))) (cell_at full_share B.mir (word b o h ∷ []) rb ro)

  back : x.at ≡ block_ptr b o → (w : LiveRun) → ent 𝓤 (sep 𝓤 (sem 𝓛 ((mem R).own_at w b o)) (sem 𝓛 Rest)) (sem 𝓛 ((mem B).own_at (with_live x w) rb ro))
  unfolding part_of
  back at w =
      qed 𝓛 (‵ (part_at R full_share w b o) ∷ ‵ Rest ∷ []) ∵ move ! (1 ∷ []) $ fsplit ! $ fsplit ! $
      -- [the right to free; the allocator; the handle's cell; the live run]
      move ! (3 ∷ 0 ∷ []) $ fjoin ! $ together R Z global_laws.the_row_laws (ghosts.dealloc_token x.alloc) ! b o h x.alloc w $
      rewrite ! 0 (λ (p : Ptr). ‵ (B.own_val (record x { at = p; value = w }) (word b o h ∷ []))) (sym at) refl $
      move ! (1 ∷ 0 ∷ []) $ fjoin ! $
      fpack ! (List Val) (λ us. fsep (cell_at full_share B.mir us rb ro) (B.own_val (with_live x w) us)) (word b o h ∷ []) $ done !

pub live_spec : {M : Type 1} → statement M
live_spec 𝓤 𝓛 𝓜 𝓡 wired =
    let H = 𝓛.H in
    let 𝓣 = tables 𝓤 H 𝓜 𝓡 𝓡.env in
    let c = clauses 𝓛 𝓜.mem 𝓡.returns in
    let fn = code.function in
    proved 𝓛 ended stayed c 𝓜 𝓡 (Goes-spent_ref 𝓛 1 (0 ∷ []) tt (plain (λ _. B)), tt) #self fn (code.unfolded 𝓤 H 𝓜 𝓡 wired)
    (λ κs. (mut_vals, tt)) (λ κs. (mut_Tells (named 0) κs.0 B, tt)) (λ κs qs bounds a g are.
    let κ = κs.0 in
    let q = qs.0 in
    let r = a.0 in
    let rb = r.ref_ptr.0 in
    let ro = r.ref_ptr.1 in
    let γ = r.ghost_name in
    let x = r.now in
    let y : (walk_of 𝓛 ended stayed c).Ghost = ((κs, qs, bounds, a, (mut_vals r, tt)), g) in
    let Post : Val → SProp 𝓤 = (walk_of 𝓛 ended stayed c).post y in
    qed 𝓛 (((‵ (flft κ q) ⊛ ‵ ftrue) ⊛ ‵ (owns (MutRef (named 0) κ B ∷ []) a (mut_vals r, tt))) ∷ raw ((c κs a).requires g) ∷ []) ∵
    split ! $ enter ! 𝓣.C 𝓣.Λ fn (vptr rb ro ∷ []) Post $
    alloc_all ! (λ l. pass_all ! refl ((tt, tt), tt) $
    let En : Env 𝓤 H = env fn.locals l in
    move ! (1 ∷ []) $ fsplit ! $ fsplit3 ! $ drop ! $ move ! (3 ∷ []) $ split ! $ move ! (2 ∷ 3 ∷ 0 ∷ []) $
    opens ! tt B {h = x} rb ro (λ vs. move ! (1 ∷ []) $
    apart R Z global_laws.the_row_laws (ghosts.dealloc_token x.alloc) ! x.at x.alloc x.value vs (λ b o h at told fits.
    rewrite ! 2 (λ (us : List Val). ‵ (cell_at full_share B.mir us rb ro)) told refl $ fsplit ! $
    -- [the live run; the right to free; the allocator; the handle's cell; the open borrow, in three entries]
    first ! $ blocks ! $
    sets ! (of_opd ! (load ! (through ! refl (fld ! refl (stop !))) (look_in ! 3 (sub ! 0 refl (whole !))))) refl (tt, tt) $
    sets ! (of_opd ! (get ! refl)) refl (tt, tt) $
    sets_last ! (addr ! (through ! refl (stop !))) refl (tt, tt) $
    exec ! 𝓣.C 𝓣.Λ En (after 1 fn.body) (at_ret En Post) $
    sets ! (of_opd ! (get ! refl)) refl (tt, tt) $
    move ! (1 ∷ 2 ∷ []) $ fjoin ! $ move ! (0 ∷ 2 ∷ []) $ fjoin ! $ move ! (2 ∷ 3 ∷ 4 ∷ 1 ∷ 0 ∷ []) $ group ! 5 $
    let F : LiveRun → Handle = with_live x in
    let Out : GName → SProp 𝓤 = Part 𝓛 B R F (named 0) κ q rb ro b o γ (sem 𝓛 (Rest 𝓛 κ q rb ro γ x b o h)) (back 𝓛 κ q rb ro γ x b o h at) x.value in
    use1 𝓛 (later (some (λ (δ : GName). raw (Out δ))))
    (lends_Part 𝓛 B R F (named 0) κ q rb ro b o γ (sem 𝓛 (Rest 𝓛 κ q rb ro γ x b o h)) (back 𝓛 κ q rb ro γ x b o h at) (B.coded.code x) (B.coded.code x) x.value) $
    await ! tt $ pick ! (λ δ.
    returns ! (look_at ! 0 refl) $ free_all ! refl $ keep ! (0 ∷ []) $
    let lent : MutBor LiveRun = record { ref_ptr = (b, o); ghost_name = δ; now = x.value } in
    use1 𝓛 (‵ ((MutRef (named 0) κ R).own_val lent (vptr b o ∷ [])) ⊛ ‵ (flft κ q) ⊛ ‵ (follows B R γ δ F)) (id⊢ 𝓤 _) $
    suffices ! _ (ends_at 𝓛 ended stayed c y (vptr b o) lent (tt, tt) (tt, tt)) $
    split ! $ move ! (1 ∷ []) $ split ! $
    -- [the token; what follows; the live run's borrow]
    move ! (2 ∷ []) $ nothing ! $ nothing ! $ fjoin ! $ join ! $ nothing ! $ move ! (2 ∷ 0 ∷ []) $ join ! $ join ! $ frame ! $ says ! refl $ done !)))))
