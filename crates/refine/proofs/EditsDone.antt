-- Edits of a list, done one after the other up to a place.
use Rattle.std.proofs.Common.{◌&&◌, ℤ, Bool, true, false, Ok, Result, IfOk, OnOk, int_eq, ◌≡◌, ◌↔◌, ◌+◌, ◌<◌, ◌++◌, ℕ, List, [], ◌∷◌, All, Some, Err, IsErrOf, get_or, length, take, arith, refl, sym, ap, ◌∙◌, subst}
use Rattle.std.proofs.lemmas.Option.{slice_get-get_or}
use Rattle.std.proofs.lemmas.Bool.Decides.{Decides-int_eq}
use Rattle.std.proofs.lemmas.List.{append_assoc, append-nil, take_more}
use Rattle.std.proofs.lemmas.List.Elements.{All-more}
use Rattle.grid.specs.Place.{Transform}
use Rattle.shapes.specs.Maps.{Layers}
use Rattle.shapes.specs.Union.{union}
use Rattle.topo.specs.OfMap.{IsOf, IsOfSomeMap}
use Rattle.topo.specs.Parts.{TopologyParts}
use Rattle.topo.specs.declared.topology.Topology as the_topology
use Rattle.merging.proofs.PlanLemmas.{same_grid_true}
use Rattle.refine.specs.Edits.{AreEditedTo, AreRefusedAt, IsEditedTo, IsOnGrid}
use Rattle.merging.specs.Meaning.{same_grid}
use Rattle.refine.specs.declared.edit.Edit.{Edit}
use Rattle.refine.specs.declared.edit.Edit.TheVariants.{Join}
use Rattle.merging.specs.declared.fault.JoinFault.{JoinFault}
use Rattle.merging.specs.declared.fault.JoinFault.TheVariants.{OtherGrid}

-- the edits before the place are on the grid and are done: what is done next is done after them
pub record AreDone (g : Transform) (m : Layers) (es : List Edit) (place : ℕ) (n : Layers) : Type 0 where
  pub on_grid : All (IsOnGrid g) (take place es)
  pub done : (next : List Edit) (k : Layers) → AreEditedTo n next k → AreEditedTo m (take place es ++ next) k

int_same : (n : ℤ) → int_eq n n ≡ true
int_same n = (Decides-int_eq n n).1 refl

grid_same : (g : Transform) → same_grid g g ≡ true
grid_same g i = (int_same g.x.scale i && int_same g.x.translate i) && (int_same g.y.scale i && int_same g.y.translate i)

true_not_false : true ≡ false → ⊥
true_not_false e = cc

-- grids that are not said to differ are the same
pub one_grid : (g h : Transform) → ¬ ¬ (g ≡ h) → g ≡ h
one_grid g h n = go (same_grid g h) refl
  where
    go : (b : Bool) → same_grid g h ≡ b → g ≡ h
    go true e = same_grid_true g h e
    go false e = absurd (n (λ s. true_not_false (sym (subst (λ k. same_grid g k ≡ true) s (grid_same g)) ∙ e)))

ok_is_no_fault : (k : the_topology.Topology) (f : JoinFault) → IsErrOf (Ok k) f → ⊥
ok_is_no_fault k f is = cc

-- what a join that is an edit makes, and that it was on the same grid
pub joined_is_edit : (t o : TopologyParts) (r : Result the_topology.Topology JoinFault) → IfOk r (λ _. IsOfSomeMap o) →
    IfOk r (λ k. (m n : Layers) → IsOf m t → IsOf n o → IsOf (union m n) k) →
    IfOk r (λ k. (m : Layers) → IsOf m t → (n : Layers) × IsEditedTo m (Join o) n × IsOf n k)
joined_is_edit t o (Ok k) (n, of_n) is = λ m of_m. (union m n, (n, of_n, refl), is m n of_m of_n)
joined_is_edit t o (Err f) some is = tt

pub joined_on_grid : (g h : Transform) (r : Result the_topology.Topology JoinFault) → (IsErrOf r OtherGrid ↔ ¬ (g ≡ h)) → OnOk r (g ≡ h)
joined_on_grid g h (Ok k) other = one_grid g h (λ off. ok_is_no_fault k OtherGrid (other.1 off))
joined_on_grid g h (Err f) other = tt

-- nothing is done before the first place
pub none_done : (g : Transform) (m : Layers) (es : List Edit) → AreDone g m es 0 m
none_done g m es = record { on_grid = λ k d below. absurd (omega (arith, below)); done = λ next k after. after }

of_err : {T : Type 0} (f h : JoinFault) → IsErrOf {T = T} (Err f) h ↔ (f ≡ h)
of_err f h = (λ is. cc, λ is. ap Err is)

module _ (g : Transform) (m : Layers) (es : List Edit) where
  pub one_more_done : (place : ℕ) (e : Edit) (n k : Layers) → place < length es → e ≡ get_or es place e → AreDone g m es place n →
      IsOnGrid g e → IsEditedTo n e k → AreDone g m es (place + 1) k
  one_more_done place e n k within is so_far on edited = record {
    on_grid = All-more (IsOnGrid g) es place e within so_far.on_grid (subst (IsOnGrid g) is on);
    done = λ next l after.
        subst (λ before. AreEditedTo m before l)
        (sym (append_assoc (take place es) (e ∷ []) next) ∙ ap (λ before. before ++ next) (ap (λ d. take place es ++ d ∷ []) is ∙ sym (take_more es place e within)))
        (so_far.done (e ∷ next) l (k, edited, after));
  }

  -- those before the place are the edits up to it
  pub done_before : (place : ℕ) (n : Layers) → AreDone g m es place n → AreEditedTo m (take place es) n
  done_before place n so_far = subst (λ before. AreEditedTo m before n) (append-nil (take place es)) (so_far.done [] n refl)

  pub refused_at : {T : Type 0} (place : ℕ) (e : Edit) (f : JoinFault) (n : Layers) → place < length es → e ≡ get_or es place e → AreDone g m es place n →
      (IsErrOf {T = T} (Err f) OtherGrid ↔ ¬ IsOnGrid g e) → AreRefusedAt g es place f
  refused_at {T} place e f n within is so_far fault = record {
    before = so_far.on_grid;
    refused = e;
    there = slice_get-get_or es place e within ∙ ap Some (sym is);
    fault_of = ((λ h. fault.0 ((of_err {T = T} f OtherGrid).1 h)), λ off. (of_err {T = T} f OtherGrid).0 (fault.1 off));
  }
