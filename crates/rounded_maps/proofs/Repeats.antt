-- Features that are seen one after the other.
use Rattle.std.proofs.Common.{◌≡◌, ◌⊎◌, ◌↔◌, inl, inr, ℕ, List, [], ◌∷◌, ◌++◌, true, false, map, refl, ap, sym, subst, ◌∙◌, append_assoc, append-nil, Less, Equal, Greater}
use Rattle.std.specs.List.{list_any}
use Rattle.std.specs.declared.cmp.Ordering.{Ordering}
use Rattle.std.specs.BTreeMap.{is_at}
use Rattle.std.specs.BTreeSet.{BTreeSet, contains, insert_key}
use Rattle.theory.specs.Lists.{Has}
use Rattle.rounded_maps.specs.Equal.{AreRepeats, FindsRepeats, Holds, IsSeen, Printed, printed, printed_shape, seen_behind}
use Rattle.shapes.specs.Shapes.{Shape}
use Rattle.rounded_maps.specs.declared.map.RoundedFeature.{RoundedFeature}
use Rattle.rounded_maps.specs.declared.equal.LayerFeature.{LayerFeature}

-- the features that a fixed feature stands for with these shapes, each with its number
abbrev pub features_with : List ℕ → ℕ → RoundedFeature → List Shape → List (ℕ × Printed)
features_with layer n f shapes = map (λ s. (n, printed_shape layer f s)) shapes

-- nothing more is seen
pub finds_none : (set : BTreeSet LayerFeature) (numbers : List ℕ) → FindsRepeats [] set set numbers numbers
finds_none set numbers seen h = (h, ([], (sym (append-nil numbers), refl)))

-- what is found of one, and of others behind it
repeats_more : (f : ℕ × Printed) (fs : List (ℕ × Printed)) (keys seen : List Printed) (old numbers new rest : List ℕ) → (Has f.1 keys ↔ Has f.1 seen)
    → ((¬ Has f.1 keys) × (numbers ≡ old)) ⊎ (Has f.1 keys × (numbers ≡ old ++ f.0 ∷ [])) → new ≡ numbers ++ rest → AreRepeats (f.1 ∷ seen) fs rest
    → (ns : List ℕ) × ((new ≡ old ++ ns) × AreRepeats seen (f ∷ fs) ns)
repeats_more f fs keys seen old numbers new rest same (inl (fresh, none)) is h = (rest, (is ∙ ap (λ l. l ++ rest) none, inr ((λ k. fresh (same.1 k)), h)))
repeats_more f fs keys seen old numbers new rest same (inr (there, more)) is h =
    (f.0 ∷ rest, (is ∙ ap (λ l. l ++ rest) more ∙ append_assoc old (f.0 ∷ []) rest, inl (same.0 there, (rest, (refl, h)))))

-- one feature, and the others behind it
pub finds_more : (f : ℕ × Printed) (fs : List (ℕ × Printed)) (before set after : BTreeSet LayerFeature) (old numbers new : List ℕ)
    → IsSeen f before set old numbers → FindsRepeats fs set after numbers new → FindsRepeats (f ∷ fs) before after old new
finds_more f fs before set after old numbers new one others seen h =
    let rest = others (f.1 ∷ seen) (one.holds seen h) in
    (rest.0, repeats_more f fs (map printed before.keys) seen old numbers new rest.1.0 (h f.1) one.found rest.1.1.0 rest.1.1.1)

-- some features, and others behind them
pub finds_all : (fs gs : List (ℕ × Printed)) (before set after : BTreeSet LayerFeature) (old numbers new : List ℕ)
    → FindsRepeats fs before set old numbers → FindsRepeats gs set after numbers new → FindsRepeats (fs ++ gs) before after old new
finds_all fs gs before set after old numbers new one others seen h =
    let first = one seen h in
    let rest = others (seen_behind seen fs) first.0 in (
      subst (Holds after) (sym (behind_both seen fs gs)) rest.0,
      (first.1.0 ++ rest.1.0, (rest.1.1.0 ∙ ap (λ l. l ++ rest.1.0) first.1.1.0 ∙ append_assoc old first.1.0 rest.1.0, repeats_all seen fs gs first.1.0 rest.1.0 first.1.1.1 rest.1.1.1)),
    )
  where
    behind_both : (seen : List Printed) (fs gs : List (ℕ × Printed)) → seen_behind seen (fs ++ gs) ≡ seen_behind (seen_behind seen fs) gs
    behind_both seen [] gs = refl
    behind_both seen (f ∷ fs) gs = behind_both (f.1 ∷ seen) fs gs

    repeats_all : (seen : List Printed) (fs gs : List (ℕ × Printed)) (ns ms : List ℕ) → AreRepeats seen fs ns → AreRepeats (seen_behind seen fs) gs ms → AreRepeats seen (fs ++ gs) (ns ++ ms)
    repeats_all seen [] gs ns ms a b = subst (AreRepeats seen gs) (ap (λ l. l ++ ms) (sym a)) b
    repeats_all seen (f ∷ fs) gs ns ms (inl (there, (rest, (is, a)))) b = inl (there, (rest ++ ms, (ap (λ l. l ++ ms) is, repeats_all (f.1 ∷ seen) fs gs rest ms a b)))
    repeats_all seen (f ∷ fs) gs ns ms (inr (fresh, a)) b = inr (fresh, repeats_all (f.1 ∷ seen) fs gs ns ms a b)

-- ---- where a key ties with those of its feature

module _ (cmp : LayerFeature → LayerFeature → Ordering) (tied : (a b : LayerFeature) → (cmp a b ≡ Equal) ↔ (printed a ≡ printed b)) where
  key_step : (k x : LayerFeature) (ks : List LayerFeature) → (list_any (is_at (cmp k)) ks ≡ true → Has (printed k) (map printed ks)) → (o : Ordering) → cmp k x ≡ o → list_any (is_at (cmp k)) (x ∷ ks) ≡ true
      → Has (printed k) (map printed (x ∷ ks))
  key_step k x ks more Equal e h = inl ((tied k x).0 e)
  key_step k x ks more Less e h = inr (more (rw e at h))
  key_step k x ks more Greater e h = inr (more (rw e at h))

  has_key : (k : LayerFeature) (ks : List LayerFeature) → list_any (is_at (cmp k)) ks ≡ true → Has (printed k) (map printed ks)
  has_key k [] h = cc
  has_key k (x ∷ ks) h = key_step k x ks (has_key k ks) (cmp k x) refl h

  tie_step : (k x : LayerFeature) (ks : List LayerFeature) → list_any (is_at (cmp k)) ks ≡ true → (o : Ordering) → cmp k x ≡ o → list_any (is_at (cmp k)) (x ∷ ks) ≡ true
  tie_step k x ks more Equal e = rw e refl
  tie_step k x ks more Less e = rw e more
  tie_step k x ks more Greater e = rw e more

  key_has : (k : LayerFeature) (ks : List LayerFeature) → Has (printed k) (map printed ks) → list_any (is_at (cmp k)) ks ≡ true
  key_has k [] h = absurd h
  key_has k (x ∷ ks) (inl e) = rw ((tied k x).1 e) refl
  key_has k (x ∷ ks) (inr h) = tie_step k x ks (key_has k ks h) (cmp k x) refl

  put_step : (k x : LayerFeature) (ks : List LayerFeature) (p : Printed) → Has p (map printed (insert_key cmp ks k)) ↔ Has p (printed k ∷ map printed ks) → (o : Ordering) → cmp k x ≡ o
      → Has p (map printed (insert_key cmp (x ∷ ks) k)) ↔ Has p (printed k ∷ map printed (x ∷ ks))
  put_step k x ks p more Less e = rw e ((λ h. h), (λ h. h))
  put_step k x ks p more Equal e = rw e ((λ h. inr h), swallow)
    where
      swallow : Has p (printed k ∷ printed x ∷ map printed ks) → Has p (printed x ∷ map printed ks)
      swallow (inl is) = inl (is ∙ (tied k x).0 e)
      swallow (inr h) = h
  put_step k x ks p more Greater e = rw e (down, up)
    where
      around : Has p (printed k ∷ map printed ks) → Has p (printed k ∷ printed x ∷ map printed ks)
      around (inl is) = inl is
      around (inr h) = inr (inr h)

      down : Has p (printed x ∷ map printed (insert_key cmp ks k)) → Has p (printed k ∷ printed x ∷ map printed ks)
      down (inl is) = inr (inl is)
      down (inr h) = around (more.0 h)

      up : Has p (printed k ∷ printed x ∷ map printed ks) → Has p (printed x ∷ map printed (insert_key cmp ks k))
      up (inl is) = inr (more.1 (inl is))
      up (inr (inl is)) = inl is
      up (inr (inr h)) = inr (more.1 (inr h))

  put_key : (k : LayerFeature) (ks : List LayerFeature) (p : Printed) → Has p (map printed (insert_key cmp ks k)) ↔ Has p (printed k ∷ map printed ks)
  put_key k [] p = ((λ h. h), (λ h. h))
  put_key k (x ∷ ks) p = put_step k x ks p (put_key k ks p) (cmp k x) refl

  -- a key that was inserted, and whether it is new
  pub seen_one : (n : ℕ) (k : LayerFeature) (before after : BTreeSet LayerFeature) (old new : List ℕ) → after.keys ≡ insert_key cmp before.keys k
      → ((contains cmp before k ≡ false) × (new ≡ old)) ⊎ ((contains cmp before k ≡ true) × (new ≡ old ++ n ∷ [])) → IsSeen (n, printed k) before after old new
  seen_one n k before after old new keys found = record { holds = holds; found = go found }
    where
      holds : (seen : List Printed) → Holds before seen → Holds after (printed k ∷ seen)
      holds seen h p = (down, up)
        where
          down : Has p (map printed after.keys) → Has p (printed k ∷ seen)
          down there = one ((put_key k before.keys p).0 (subst (λ ks. Has p (map printed ks)) keys there))
            where
              one : Has p (printed k ∷ map printed before.keys) → Has p (printed k ∷ seen)
              one (inl is) = inl is
              one (inr j) = inr ((h p).0 j)

          up : Has p (printed k ∷ seen) → Has p (map printed after.keys)
          up there = subst (λ ks. Has p (map printed ks)) (sym keys) ((put_key k before.keys p).1 (one there))
            where
              one : Has p (printed k ∷ seen) → Has p (printed k ∷ map printed before.keys)
              one (inl is) = inl is
              one (inr j) = inr ((h p).1 j)

      go : ((contains cmp before k ≡ false) × (new ≡ old)) ⊎ ((contains cmp before k ≡ true) × (new ≡ old ++ n ∷ []))
          → ((¬ Has (printed k) (map printed before.keys)) × (new ≡ old)) ⊎ (Has (printed k) (map printed before.keys) × (new ≡ old ++ n ∷ []))
      go (inl (fresh, same)) = inl ((λ there. let is = key_has k before.keys there in cc), same)
      go (inr (there, more)) = inr (has_key k before.keys there, more)
