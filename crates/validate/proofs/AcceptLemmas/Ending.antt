-- Where lists of used arcs begin and end, and the lines that they stitch to.
use Rattle.std.proofs.Common.{◌≡◌, ◌↔◌, ℕ, ◌+◌, ◌<◌, ◌≤◌, List, [], ◌∷◌, ◌++◌, drop, get_or, length, inl, inr, sym, ap, ◌∙◌, subst, append_assoc}
use Rattle.std.proofs.lemmas.List.{append-nil, drop_all}
use Rattle.grid.specs.declared.pos.Pos.{Pos}
use Rattle.theory.specs.ArcNumbers.{ArcRef, StitchFrom, StitchTo}
use Rattle.theory.specs.Geometry.{Geometry}
use Rattle.theory.specs.Lists.{EndOf, Has, gathered, last_of}
use Rattle.theory.specs.Validity.{Runs}
use Rattle.theory.proofs.Lists.{last_join}
use Rattle.theory.proofs.ListsOfLists.{Has-gathered, gathered_from}
use Rattle.theory.proofs.UsersOfArcs.{partner, partner_back}
use Rattle.chains.proofs.Layers.{gathered-append}
use Rattle.lines.proofs.Dropping.{drop_item}
use Rattle.validate.specs.ArcEnds.{line_ends}
use Rattle.validate.specs.FreeLoops.{AreLineEnds}
use Rattle.validate.proofs.Listing.{run_line_ends}
use Rattle.validate.specs.Accept.LineEnds.{LinesStitch}

module _ (arcs : List (List Pos)) where
  -- what stitches runs
  stitch_runs : (us : List ArcRef) (x : Pos) (r : List Pos) → StitchFrom arcs x us r → Runs arcs x us (last_of x r)
  stitch_runs [] x r h = ap (last_of x) (sym h)
  stitch_runs (a ∷ us) x r (q, s, e, p, h) =
      (q, e, subst (λ w. Runs arcs (last_of x q) us w) (sym (last_join x q s) ∙ ap (last_of x) (sym p)) (stitch_runs us (last_of x q) s h))

  stitched_ends : (us : List ArcRef) (l : List Pos) → StitchTo arcs us l → (v : Pos) → Has v (line_ends arcs us) ↔ EndOf v l
  stitched_ends [] l h v = ((λ k. absurd k), (λ k. subst (EndOf v) h k))
  stitched_ends (a ∷ us) [] h v = absurd h
  stitched_ends (a ∷ us) (x ∷ r) h v =
      let e : line_ends arcs (a ∷ us) ≡ x ∷ (last_of x r ∷ []) = run_line_ends arcs (a ∷ us) x (last_of x r) (λ f. absurd cc) (stitch_runs (a ∷ us) x r h) in (
        (λ k. elim (subst (Has v) e k) [ inl f ↦ inl f | inr j ↦ elim j [ inl f ↦ inr f | inr i ↦ absurd i ] ]),
        (λ k. subst (Has v) (sym e) (elim k [ inl f ↦ inl f | inr f ↦ inr (inl f) ])),
      )

  -- the ends of lists that stitch to a map's lines are those of its lines
  pub are_line_ends : (ends : List Pos) (lists : List (List ArcRef)) → ends ≡ gathered (line_ends arcs) lists → (g : Geometry Pos) → LinesStitch arcs lists g → AreLineEnds ends g
  are_line_ends ends lists e g p v = (
    (λ k.
        let u = gathered_from (line_ends arcs) lists v (subst (Has v) e k) in
        let w = partner_back (λ l us. StitchTo arcs us l) g.lines lists p u.0 u.1 in
        (w.0, w.1, (stitched_ends u.0 w.0 w.2 v).0 u.2)),
    (λ (l, h, i).
        let w = partner (λ l us. StitchTo arcs us l) g.lines lists p l h in
        subst (Has v) (sym e) (Has-gathered (line_ends arcs) lists w.0 v w.1 ((stitched_ends w.0 l w.2 v).1 i))),
  )

  -- a loop that adds the ends of what has lists: `l` tells the lists of each
  module _ {A : Type 0} (l : A → List (List ArcRef)) (xs : List A) (i : ℕ) where
    pub more_ends : (x : A) (old now all : List Pos) → i < length xs → x ≡ get_or xs i x → now ≡ old ++ gathered (line_ends arcs) (l x) →
        old ++ gathered (line_ends arcs) (gathered l (drop i xs)) ≡ all → now ++ gathered (line_ends arcs) (gathered l (drop (i + 1) xs)) ≡ all
    more_ends x old now all h e f g =
        ap (λ w. w ++ gathered (line_ends arcs) (gathered l (drop (i + 1) xs))) f
        ∙ append_assoc old (gathered (line_ends arcs) (l x)) (gathered (line_ends arcs) (gathered l (drop (i + 1) xs)))
        ∙ ap (λ w. old ++ w) (sym (gathered-append (line_ends arcs) (l x) (gathered l (drop (i + 1) xs)))
        ∙ ap (λ w. gathered (line_ends arcs) (gathered l w)) (sym (drop_item xs i x h e)))
        ∙ g

    pub no_more_ends : (old all : List Pos) → length xs ≤ i → old ++ gathered (line_ends arcs) (gathered l (drop i xs)) ≡ all → old ≡ all
    no_more_ends old all h g = sym (append-nil old) ∙ ap (λ w. old ++ gathered (line_ends arcs) (gathered l w)) (sym (drop_all i xs h)) ∙ g
