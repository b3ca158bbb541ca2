-- The box around what is left of a list.
use Rattle.std.proofs.lemmas.List.{drop_more}
use Rattle.std.proofs.Common.{length, get_or, ◌<◌, ◌≡◌, ℕ, ℤ, ◌+◌, List, ◌++◌, drop, sym, ap, ◌∙◌, Option}
use Rattle.grid.specs.declared.pos.Pos.{Pos}
use Rattle.theory.specs.Lists.{gathered}
use Rattle.topo.specs.Box.{box_by}
use Rattle.topo.specs.Parts.{Corners}
use Rattle.topo.proofs.Boxes.{box_append}

-- one more of those that are left
pub gathered_step : {A : Type 0} (f : A → List Pos) (index : Pos → ℤ × ℤ) (b c : Option Corners) (xs : List A) (i : ℕ) (x : A) → i < length xs → x ≡ get_or xs i x →
    c ≡ box_by index b (f x) → box_by index c (gathered f (drop (i + 1) xs)) ≡ box_by index b (gathered f (drop i xs))
gathered_step f index b c xs i x k e is =
    ap (λ w. box_by index w (gathered f (drop (i + 1) xs))) is
    ∙ sym (box_append index b (f x) (gathered f (drop (i + 1) xs)))
    ∙ ap (λ w. box_by index b (f w ++ gathered f (drop (i + 1) xs))) e
    ∙ sym (ap (λ w. box_by index b (gathered f w)) (drop_more xs i x k))
