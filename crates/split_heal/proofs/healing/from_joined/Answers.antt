use Rattle.std.proofs.Common.{◌∙◌, [], ap, length, map, replicate, subst, sym}
use Rattle.theory.specs.Arcs.{AreSortedOnce}
use Rattle.lines.specs.Turned.{list_cmp}
use Rattle.arcs.specs.Pieces.{chain_of}
use Rattle.arcs.specs.Table.{AreLoopsOf, located}
use Rattle.split_heal.specs.HealedArcs.{put_all}
use Rattle.split_heal.specs.HealedParts.{HealedParts}
use Rattle.split_heal.proofs.healing.from_joined.Goals as goal

pub returns : goal.returns
returns c =
    let is = c.in_ok-from_parts.ensures in
    let ps = c.args.joined.pieces.items in
    let refs = c.deref.ensures.value ∙ c.in_ok-arcs.ensures.refs ∙ ap (λ (r : HealedParts). map (located r.arcs.arcs) ps) (sym is) in
    let count = c.len.ensures.len ∙ ap (λ (r : HealedParts). length r.arcs.arcs) (sym is) in
    record {
      arcs = subst (λ (r : HealedParts). AreSortedOnce list_cmp (map chain_of ps) r.arcs.arcs) (sym is) c.in_ok-arcs.ensures.arcs;
      loops = subst (λ (r : HealedParts). AreLoopsOf ps r.arcs.loops) (sym is) c.in_ok-arcs.ensures.loops;
      pieces = ap (λ (r : HealedParts). r.pieces) is ∙ c.in_ok-lists.ensures ∙ (λ i. put_all (refs i) c.args.joined.lists.items (replicate (count i) []));
    }
