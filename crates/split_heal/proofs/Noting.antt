-- The steps by which the starts of new arcs are noted.
use Rattle.std.proofs.Common.{◌≡◌, ℕ, ◌+◌, true, false, List, ◌∷◌, sym, ap, ◌∙◌}
use Rattle.theory.specs.ArcNumbers.{ArcRef, backwards}
use Rattle.theory.specs.Healing.{Starts}
use Rattle.split_heal.specs.Starts.{with_arcs, with_head}

-- one new arc more
pub arc_step : (i : ℕ) (p : List ArcRef) (left rest : List (List ArcRef)) (old mid new all : Starts) → left ≡ p ∷ rest →
    ((q : ArcRef) → mid q ≡ with_head (record { arc = i; reversed = false }) p old q) →
    ((q : ArcRef) → new q ≡ with_head (record { arc = i; reversed = true }) (backwards p) mid q) →
    ((q : ArcRef) → with_arcs i old left q ≡ all q) → (q : ArcRef) → with_arcs (i + 1) new rest q ≡ all q
arc_step i p left rest old mid new all e f g h q =
    ap (λ s. with_arcs (i + 1) s rest q) (λ j x. (g x ∙ ap (λ s. with_head (record { arc = i; reversed = true }) (backwards p) s x) (λ k y. f y k)) j)
    ∙ ap (λ l. with_arcs i old l q) (sym e) ∙ h q
