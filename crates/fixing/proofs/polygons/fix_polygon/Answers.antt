use Rattle.std.proofs.Common.{◌≡◌, true, ◌∷◌, [], map, sym, ap, ◌∙◌, Some}
use Rattle.std.specs.Option.{option_map}
use Rattle.lines.specs.Seen.{vertices_of}
use Rattle.fixing.specs.Polygons.{rings_made}
use Rattle.fixing.proofs.RingsMade.{kept_left, sound_counted, sound_left}
use Rattle.fixing.proofs.polygons.fix_polygon.Goals as goal

pub returns-in-Some-clause-left : goal.returns-in-Some-clause-left
returns-in-Some-clause-left c =
    let told : Some (map vertices_of c.in-Some.sound.items) ≡ rings_made c.args.rules.now.rewind true c.args.rings.items =
    sym (ap (option_map (λ rings. map vertices_of rings.items)) c.in-Some.is) ∙ c.in_ok-sound.ensures
    ∙ ap (rings_made c.args.rules.now.rewind true) c.as_slice.ensures.value in
    sound_left c.args.rules.now c.args.rings.items (map vertices_of c.in-Some.sound.items) told
    ∙ sym (ap (λ l. Some (map (map vertices_of) l)) (c.in_ok-only.ensures ∙ ap (λ v. v ∷ []) c.from_vec.ensures))

pub returns-in-Some-clause-fixes : goal.returns-in-Some-clause-fixes
returns-in-Some-clause-fixes c =
    let told : Some (map vertices_of c.in-Some.sound.items) ≡ rings_made c.args.rules.now.rewind true c.args.rings.items =
    sym (ap (option_map (λ rings. map vertices_of rings.items)) c.in-Some.is) ∙ c.in_ok-sound.ensures
    ∙ ap (rings_made c.args.rules.now.rewind true) c.as_slice.ensures.value in
    sym (sound_counted c.args.rules.now c.args.rings.items (map vertices_of c.in-Some.sound.items) c.args.fixes.now told)

pub returns-clause-left : goal.returns-clause-left
returns-clause-left c =
    kept_left c.args.rules.now c.args.rings.items _ _ c.in_ok-polygons.ensures.left c.in_ok-rings_of_polygons.ensures
