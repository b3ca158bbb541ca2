-- Lists of positions of which each comes before the next.
use Rattle.std.proofs.Common.{◌≡◌, true, List, [], ◌∷◌, inl, inr, sym, subst}
use Rattle.std.specs.Ordering.{is_lt}
use Rattle.std.specs.Cmp.Lexicographic.{lists_total}
use Rattle.std.specs.declared.cmp.Ordering.{Ordering}
use Rattle.std.specs.declared.cmp.Ordering.TheVariants.{Less, Equal, Greater}
use Rattle.grid.specs.declared.pos.Pos.{Pos}
use Rattle.lines.specs.Turned.{list_cmp}
use Rattle.theory.specs.Arcs.{Ascends}
use Rattle.arcs.specs.Stored.{rises}
use Rattle.lines.specs.Positions.{position_total}
use Rattle.lines.proofs.Positions.{both_true}

pub less_is : (r : Ordering) → is_lt r ≡ true → r ≡ Less
less_is Less e = cc
less_is Equal e = absurd cc
less_is Greater e = absurd cc

-- then each comes before all that follow
pub ascends_rising : (l : List (List Pos)) → rises l ≡ true → Ascends list_cmp l
ascends_rising [] e = tt
ascends_rising (c ∷ []) e = ((λ y h. absurd h), tt)
ascends_rising (c ∷ (d ∷ l)) e =
    let t = both_true (is_lt (list_cmp c d)) (rises (d ∷ l)) e in
    let r = ascends_rising (d ∷ l) t.1 in
    let k : list_cmp c d ≡ Less = less_is (list_cmp c d) t.0 in (
      (λ y h. elim h [
        | inl f ↦ subst (λ w. list_cmp c w ≡ Less) (sym f) k
        | inr m ↦ (lists_total position_total).trans c d y k (r.0 y m)
      ]),
      r,
    )
