-- The ends of arcs that are put behind others, one by one.
use Rattle.std.proofs.Common.{◌≡◌, ◌↔◌, ◌⊎◌, inl, inr, ℕ, List, [], ◌∷◌, ◌++◌, reverse, sym, subst, Option, Some, Result, Ok, Err, OnOk}
use Rattle.grid.specs.declared.pos.Pos.{Pos}
use Rattle.theory.specs.Lists.{BeginsTwo}
use Rattle.topo.specs.Points.{arc_at}
use Rattle.arcs.specs.declared.step.ArcStep.{ArcStep}
use Rattle.arcs.specs.Steps.{first_of}
use Rattle.query.specs.Ends.{AmongEnds, EndStep, IsEnd, OnEnds}
use Rattle.chains.proofs.Stepping.{first_put, behind_first, step_on, all_put}

among_put : (v w : Pos) (es : List ArcStep) (e : ArcStep) → AmongEnds v w (es ++ (e ∷ [])) ↔ (AmongEnds v w es ⊎ IsEnd v w (Some e))
among_put v w [] e = first_put (IsEnd v w (Some e))
among_put v w (d ∷ es) e = behind_first (IsEnd v w (Some d)) (AmongEnds v w es) (AmongEnds v w (es ++ (e ∷ []))) (IsEnd v w (Some e)) (among_put v w es e)

-- one end more
pub put_end : (es new : List ArcStep) (end : Option ArcStep) (e : ArcStep) → end ≡ Some e → new ≡ es ++ (e ∷ []) → (v w : Pos) →
    AmongEnds v w new ↔ (AmongEnds v w es ⊎ IsEnd v w end)
put_end es new end e is put v w =
    let r = among_put v w es e in (
      (λ h. elim (r.0 (subst (AmongEnds v w) put h)) [ inl k ↦ inl k | inr k ↦ inr (subst (IsEnd v w) (sym is) k) ]),
      (λ h. subst (AmongEnds v w) (sym put) (r.1 (elim h [ inl k ↦ inl k | inr k ↦ inr (subst (IsEnd v w) is k) ]))),
    )

begin_two : (c : List Pos) (v w : Pos) → IsEnd v w (first_of c) ↔ BeginsTwo v w c
begin_two [] v w = ((λ h. h), (λ h. h))
begin_two (x ∷ []) v w = ((λ h. absurd h), (λ h. h.1))
begin_two (x ∷ (y ∷ r)) v w = ((λ h. h), (λ h. h))

-- both ends of an arc
pub two_ends : {A E : Type 0} (r : Result A E) (old mid new : List ArcStep) (arc : List Pos) (first last : Option ArcStep) →
    first ≡ first_of arc → last ≡ first_of (reverse arc) → ((v w : Pos) → AmongEnds v w mid ↔ (AmongEnds v w old ⊎ IsEnd v w first)) →
    OnOk r ((v w : Pos) → AmongEnds v w new ↔ (AmongEnds v w mid ⊎ IsEnd v w last)) →
    OnOk r ((v w : Pos) → AmongEnds v w new ↔ (AmongEnds v w old ⊎ EndStep v w arc))
two_ends (Err e) old mid new arc first last f l one two = tt
two_ends (Ok a) old mid new arc first last f l one two = λ v w. (
  (λ h. elim ((two v w).0 h) [
    | inl k ↦ elim ((one v w).0 k) [ inl i ↦ inl i | inr i ↦ inr (inl ((begin_two arc v w).0 (subst (IsEnd v w) f i))) ]
    | inr k ↦ inr (inr ((begin_two (reverse arc) v w).0 (subst (IsEnd v w) l k)))
  ]),
  (λ h. (two v w).1 (elim h [
    | inl k ↦ inl ((one v w).1 (inl k))
    | inr k ↦ elim k [
      | inl i ↦ inl ((one v w).1 (inr (subst (IsEnd v w) (sym f) ((begin_two arc v w).1 i))))
      | inr i ↦ inr (subst (IsEnd v w) (sym l) ((begin_two (reverse arc) v w).1 i))
    ]
  ])),
)

-- the ends of one arc more
pub step_ends : (old new : List ArcStep) (arcs : List (List Pos)) (k : ℕ) (ks rest : List ℕ) (All : Type 0) (v w : Pos) → ks ≡ k ∷ rest →
    AmongEnds v w new ↔ (AmongEnds v w old ⊎ EndStep v w (arc_at arcs k)) → (AmongEnds v w old ⊎ OnEnds arcs ks v w) ↔ All →
    (AmongEnds v w new ⊎ OnEnds arcs rest v w) ↔ All
step_ends old new arcs k ks rest All v w e put left =
    step_on (AmongEnds v w old) (AmongEnds v w new) (EndStep v w (arc_at arcs k)) (OnEnds arcs ks v w) (OnEnds arcs rest v w) All
    (subst (λ l. OnEnds arcs l v w) e) (subst (λ l. OnEnds arcs l v w) (sym e)) put left

-- nothing is left
pub done_ends : (es : List ArcStep) (arcs : List (List Pos)) (ks : List ℕ) (All : Type 0) (v w : Pos) → ks ≡ [] → (AmongEnds v w es ⊎ OnEnds arcs ks v w) ↔ All → AmongEnds v w es ↔ All
done_ends es arcs ks All v w e left = all_put (AmongEnds v w es) (OnEnds arcs ks v w) All (λ k. subst (λ l. OnEnds arcs l v w) e k) left
