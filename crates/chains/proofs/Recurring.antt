-- Vertices that come again are noted, and the visits at them kept.
use Rattle.std.proofs.Common.{◌≡◌, Bool, true, false, cond, List, [], ◌∷◌, ◌++◌, inl, inr, append-nil, refl, sym, ap, subst}
use Rattle.theory.specs.TopologyFunction.{keep}
use Rattle.theory.proofs.Turning.{has_keep, keep_has}
use Rattle.grid.specs.declared.pos.Pos.{Pos}
use Rattle.lines.specs.PositionFilter.{may_hold}
use Rattle.chains.specs.Repeats.{AreRecorded, HoldsClashing}
use Rattle.chains.specs.VertexFilter.{KeepsClashes}
use Rattle.chains.specs.declared.repeats.Repeats.{Repeats}
use Rattle.chains.specs.declared.visits.Visit.{Visit}

-- none is noted before two lists of visits
pub none_recorded : (r : Repeats) (first second : List Visit) → AreRecorded r (first ++ second) (first ++ (second ++ []))
none_recorded r first second = subst (λ l. AreRecorded r (first ++ second) (first ++ l)) (sym (append-nil second)) (record {
  met = λ v h. inl h;
  again = λ v w h k s d. inl (inl h);
})

-- behind the last
pub all_recorded : (r : Repeats) (all : List Visit) → AreRecorded r all [] → HoldsClashing (may_hold r.again) all
all_recorded r all recorded v w j k s d = elim (recorded.again v w j k s d) [
  | inl (inl l) ↦ absurd l
  | inl (inr l) ↦ absurd l
  | inr a ↦ a
]

-- the visits at such vertices are kept
pub held_kept : (may : Pos → Bool) (all : List Visit) → HoldsClashing may all → KeepsClashes (keep (λ (v : Visit). may v.vertex) all) all
held_kept may all holds = record {
  only = λ w h. (keep_has (λ (v : Visit). may v.vertex) all w h).0;
  clashing = λ v w h k s d. has_keep (λ (v : Visit). may v.vertex) all v h (holds v w h k s d);
}

pub keep_both : {A : Type 0} (f : A → Bool) (xs ys : List A) → keep f (xs ++ ys) ≡ keep f xs ++ keep f ys
keep_both f [] ys = refl
keep_both {A} f (x ∷ xs) ys = go (f x) (keep_both f xs ys)
  where
    go : (b : Bool) → keep f (xs ++ ys) ≡ keep f xs ++ keep f ys → cond b (x ∷ keep f (xs ++ ys)) (keep f (xs ++ ys)) ≡ cond b (x ∷ keep f xs) (keep f xs) ++ keep f ys
    go true e = ap (λ l. x ∷ l) e
    go false e = e

-- what is kept of what was kept
pub keeps_through : (kept visits all : List Visit) → KeepsClashes kept visits → KeepsClashes visits all → KeepsClashes kept all
keeps_through kept visits all of_visits of_all = record {
  only = λ w h. of_all.only w (of_visits.only w h);
  clashing = λ v w h k s d. of_visits.clashing v w (of_all.clashing v w h k s d) (of_all.clashing w v k h (sym s) (λ e. d (sym e))) s d;
}
