-- Vertices that come again in a list, found by what was met before, and what is kept of them.
use Rattle.std.proofs.Common.{◌≡◌, ℕ, ◌+◌, ◌<◌, ◌≤◌, Bool, true, false, cond, List, [], ◌∷◌, ◌++◌, ◌⊎◌, inl, inr, length, drop, get_or, refl, sym, ◌∙◌, subst}
use Rattle.grid.specs.declared.pos.Pos.{Pos}
use Rattle.lines.specs.PositionFilter.{may_hold}
use Rattle.lines.specs.Holding.{Holds, Keeps}
use Rattle.lines.specs.declared.position_filter.PositionFilter.{PositionFilter}
use Rattle.lines.proofs.Doubles.{twice_kept}
use Rattle.lines.proofs.Dropping.{drop_item, none_left}
use Rattle.theory.specs.Lists.{EndOf, Has, Twice, gathered}
use Rattle.theory.specs.TopologyFunction.{keep}
use Rattle.theory.proofs.Lists.{Has-append_left, Has-append_right}
use Rattle.theory.proofs.ListsOfLists.{Has-gathered}
use Rattle.theory.proofs.Turning.{keep_has, has_keep}
use Rattle.validate.specs.SharedVertices.{HasTwice, KeepsElsewhere}
use Rattle.validate.specs.ArcEnds.{both_ends}

-- a vertex that stands twice does so among those that are left, or is met and left, or is among those that came again
abbrev pub AreMet : PositionFilter → List Pos → List Pos → List Pos → Type 0
AreMet met again all left =
    (v : Pos) → Twice v all → (Twice v left ⊎ (Has v left × (may_hold met v ≡ true))) ⊎ Has v again

pub none_met : (met : PositionFilter) (again all : List Pos) → AreMet met again all all
none_met met again all v h = inl (inl h)

module _ (old new : PositionFilter) (was now all rest : List Pos) (x : Pos) (kept : Keeps (may_hold old) (may_hold new)) (here : may_hold new x ≡ true)
    (stays : (v : Pos) → Has v was → Has v now) (found : may_hold old x ≡ true → Has x now) (before : AreMet old was all (x ∷ rest)) where
  met_next : AreMet new now all rest
  met_next v h = elim (before v h) [
    | inl (inl (inl k)) ↦ inl (inr (k.1, subst (λ w. may_hold new w ≡ true) (sym k.0) here))
    | inl (inl (inr k)) ↦ inl (inl k)
    | inl (inr k) ↦ elim k.0 [
      | inl e ↦ inr (subst (λ w. Has w now) (sym e) (found (subst (λ w. may_hold old w ≡ true) e k.1)))
      | inr r ↦ inl (inr (r, kept v k.1))
    ]
    | inr k ↦ inr (stays v k)
  ]

-- a step past a vertex that may have been met, and one past a vertex that was not
pub one_again : (met new : PositionFilter) (was now all : List Pos) (i : ℕ) (x : Pos) → i < length all → x ≡ get_or all i x → may_hold met x ≡ true → new ≡ met →
    now ≡ was ++ x ∷ [] → AreMet met was all (drop i all) → AreMet new now all (drop (i + 1) all)
one_again met new was now all i x h e m s n before =
    subst (λ l. AreMet new l all (drop (i + 1) all)) (sym n)
    (subst (λ w. AreMet w (was ++ x ∷ []) all (drop (i + 1) all)) (sym s)
    (met_next met met was (was ++ x ∷ []) all (drop (i + 1) all) x (λ p q. q) m (λ v k. Has-append_left v was (x ∷ []) k) (λ q. Has-append_right x was (x ∷ []) (inl refl))
    (subst (AreMet met was all) (drop_item all i x h e) before)))

pub one_new : (met new : PositionFilter) (was now all : List Pos) (i : ℕ) (x : Pos) → i < length all → x ≡ get_or all i x → may_hold met x ≡ false →
    Keeps (may_hold met) (may_hold new) × (may_hold new x ≡ true) → now ≡ was → AreMet met was all (drop i all) → AreMet new now all (drop (i + 1) all)
one_new met new was now all i x h e f marked n before =
    subst (λ l. AreMet new l all (drop (i + 1) all)) (sym n)
    (met_next met new was was all (drop (i + 1) all) x marked.0 marked.1 (λ v k. k) (λ q. absurd (let z : true ≡ false = sym q ∙ f in cc))
    (subst (AreMet met was all) (drop_item all i x h e) before))

twice_has : (v : Pos) (l : List Pos) → Twice v l → Has v l
twice_has v [] h = absurd h
twice_has v (x ∷ l) (inl h) = inl h.0
twice_has v (x ∷ l) (inr h) = inr (twice_has v l h)

-- behind the last
pub all_met : (met : PositionFilter) (again all : List Pos) (i : ℕ) → length all ≤ i → AreMet met again all (drop i all) → HasTwice again all
all_met met again all i h a v t = elim (a v t) [
  | inl (inl k) ↦ absurd (none_left v all i h (twice_has v (drop i all) k))
  | inl (inr k) ↦ absurd (none_left v all i h k.0)
  | inr k ↦ k
]

-- what stands twice among those that are kept does so among all
kept_twice : (f : Pos → Bool) (l : List Pos) (v : Pos) → Twice v (keep f l) → Twice v l
kept_twice f [] v h = absurd h
kept_twice f (x ∷ l) v h = go (f x) h (λ k. kept_twice f l v k)
  where
    go : (b : Bool) → Twice v (cond b (x ∷ keep f l) (keep f l)) → (Twice v (keep f l) → Twice v l) → Twice v (x ∷ l)
    go true (inl k) ih = inl (k.0, (keep_has f l v k.1).0)
    go true (inr k) ih = inr (ih k)
    go false k ih = inr (ih k)

end_listed : (v : Pos) (c : List Pos) → EndOf v c → Has v (both_ends c)
end_listed v [] h = absurd h
end_listed v (x ∷ r) (inl e) = inl e
end_listed v (x ∷ r) (inr e) = inr (inl e)

-- those are kept whose bits are set, which are those of vertices that come again and of ends
pub keeps_elsewhere : (f : Pos → Bool) (again watched inside kept : List Pos) (arcs : List (List Pos)) → HasTwice again inside → watched ≡ again ++ gathered both_ends arcs →
    Holds f watched → kept ≡ keep f inside → KeepsElsewhere kept inside arcs
keeps_elsewhere f again watched inside kept arcs twice made holds is = subst (λ l. KeepsElsewhere l inside arcs) (sym is) (record {
  only = λ v h. (keep_has f inside v h).0;
  only_twice = kept_twice f inside;
  twice = λ v h. twice_kept f inside v (held v (Has-append_left v again (gathered both_ends arcs) (twice v h))) h;
  ends = λ c h v e k. has_keep f inside v k (held v (Has-append_right v again (gathered both_ends arcs) (Has-gathered both_ends arcs c v h (end_listed v c e))));
})
  where
    held : (v : Pos) → Has v (again ++ gathered both_ends arcs) → f v ≡ true
    held v h = holds v (subst (Has v) (sym made) h)
