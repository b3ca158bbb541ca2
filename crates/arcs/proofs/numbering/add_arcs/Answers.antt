use Rattle.std.proofs.Common.{◌≡◌, ◌<◌, ◌++◌, ◌∷◌, [], map, inl, inr, refl, sym, ap, ◌∙◌, subst, Some}
use Rattle.std.proofs.lemmas.List.{length-set}
use Rattle.std.specs.Option.{option_eq}
use Rattle.theory.specs.ArcNumbers.{ArcRef}
use Rattle.theory.specs.Lists.{Has}
use Rattle.arcs.specs.Keys.{key_eq, key_of}
use Rattle.arcs.specs.Placing.{arcs_of, piece_of}
use Rattle.arcs.specs.Stored.{merged, merged_behind, merged_from, positions_of, stored_of}
use Rattle.arcs.specs.Table.{located, number_in}
use Rattle.arcs.specs.declared.numbering.Placed.{Placed}
use Rattle.arcs.proofs.KeysFirst.{apart}
use Rattle.arcs.proofs.Merged.{emptied}
use Rattle.arcs.proofs.PlacedPieces.{LeftOrPut, number_put, ref_put}
use Rattle.arcs.proofs.numbering.add_arcs.Goals as goal

pub index_mut-requires : goal.index_mut-requires
index_mut-requires c =
    let x = c.in-Some.placed in
    let there = c.loop-placed.invariant.there x (subst (Has x) (sym c.in-Some.ensures.steps.0) (inl refl)) in
    subst (λ n. x.index < n) (sym c.loop-placed.refs.ok.0) (subst (λ n. x.index < n) (sym c.loop-placed.invariant.len) (c.requires.placed.within x there))

pub arc_behind-requires : goal.arc_behind-requires
arc_behind-requires c = λ e.
    let x = c.in-Some.placed in
    let there = c.loop-placed.invariant.there x (subst (Has x) (sym c.in-Some.ensures.steps.0) (inl refl)) in
    let key : x.key ≡ key_of c.of.result.positions = c.requires.placed.keys x there ∙ ap key_of (sym (ap positions_of c.of.ensures)) in
    apart c.loop-placed.last c.loop-placed.last_key c.of.result.positions c.loop-placed.invariant.key
    (ap (λ k. option_eq key_eq c.loop-placed.last_key (Some k)) (sym key) ∙ sym c.eq-may_be_same.ensures ∙ e)

pub loop-placed-preserved : goal.loop-placed-preserved
loop-placed-preserved c =
    let l = c.args.pieces.items in
    let x = c.in-Some.placed in
    let more = c.next.new.self.rest.items in
    let arcs = c.arc_behind.new.arcs in
    let last = c.in_ok-arc_behind.field-0 in
    let was = c.loop-placed.invariant in
    let steps = c.in-Some.ensures.steps.0 in
    let there = was.there x (subst (Has x) (sym steps) (inl refl)) in
    let all : arcs ++ merged_from last (map stored_of (map piece_of more)) ≡ merged (map stored_of (map piece_of l)) =
    c.in_ok-arc_behind.ensures.all (map stored_of (map piece_of more))
    ∙ ap (λ w. c.loop-placed.arcs ++ merged_behind c.loop-placed.last (w ∷ map stored_of (map piece_of more))) c.of.ensures
    ∙ ap (λ w. c.loop-placed.arcs ++ merged_behind c.loop-placed.last (map stored_of (map piece_of w))) (sym steps)
    ∙ was.all in
    let number : c.len.result ≡ number_in (arcs_of l) x.piece =
    c.len.ensures.len
    ∙ number_put l arcs last (map stored_of (map piece_of more)) x.piece c.requires.rises all (c.in_ok-arc_behind.ensures.positions ∙ ap positions_of c.of.ensures) in
    let used : ArcRef = record { arc = c.len.result; reversed = c.reversed-reversed.result } in
    let is : used ≡ located (arcs_of l) x.piece = λ i. record { arc = number i; reversed = c.reversed-reversed.ensures i } in
    record {
      all = all;
      key = ap Some (c.requires.placed.keys x there ∙ ap key_of (sym (c.in_ok-arc_behind.ensures.positions ∙ ap positions_of c.of.ensures)));
      len = length-set c.loop-placed.refs.items x.index used ∙ was.len;
      there = λ y h. was.there y (subst (Has y) (sym steps) (inr h));
      put = ref_put l more c.loop-placed.refs.items x used c.requires.placed there was.len is
          (subst (λ w. (y : Placed) → Has y l → LeftOrPut (arcs_of l) w c.loop-placed.refs.items y) steps was.put);
    }

pub returns-clause-arcs : goal.returns-clause-arcs
returns-clause-arcs c =
    let none : c.loop-placed.placed-iterator.rest.items ≡ [] =
    emptied c.loop-placed.placed-iterator.rest.items (sym c.loop-placed.placed-iterator.rest.ok.0 ∙ c.in-None.ensures.steps.0) in
    ap (λ w. c.loop-placed.arcs ++ merged_behind c.loop-placed.last (map stored_of (map piece_of w))) (sym none) ∙ c.loop-placed.invariant.all

pub returns-clause-refs : goal.returns-clause-refs
returns-clause-refs c = λ x h.
    let none : c.loop-placed.placed-iterator.rest.items ≡ [] =
    emptied c.loop-placed.placed-iterator.rest.items (sym c.loop-placed.placed-iterator.rest.ok.0 ∙ c.in-None.ensures.steps.0) in
    elim (c.loop-placed.invariant.put x h) [ inl m ↦ absurd (subst (Has x) none m) | inr g ↦ g ]
