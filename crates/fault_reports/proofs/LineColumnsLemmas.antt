-- Lemmas on lines and columns of a text.
use Rattle.std.proofs.Common.{◌≡◌, ℕ, ◌+◌, ◌-◌, ◌^◌, ◌<◌, ◌≤◌, Bool, true, false, cond, List, [], ◌∷◌, ◌++◌, arith, ap, count_by, drop, length, length-append, min, not, sym, ◌∙◌}
use Rattle.std.proofs.lemmas.List.{drop-append-le, drop_all, length-drop, reverse-append}
use Rattle.std.proofs.lemmas.List.Sums.{count_by-le-length, sum_by_push}
use Rattle.std.specs.List.{after_last, prefix_len, suffix_len}
use Rattle.std.specs.Fmt.{is_char_start}
use Rattle.fault_reports.specs.LineColumns.{is_line_feed, last_line, place_behind}
use Rattle.fault_reports.specs.declared.line_columns.LineColumn.{LineColumn}

-- one more element at the end
suffix_more : {X : Type 0} (p : X → Bool) (xs : List X) (x : X) → suffix_len p (xs ++ x ∷ []) ≡ cond (p x) (1 + suffix_len p xs) 0
suffix_more p xs x = ap (prefix_len p) (reverse-append xs (x ∷ []))

after_last_more : {X : Type 0} (p : X → Bool) (xs : List X) (x : X) → p x ≡ false → after_last p (xs ++ x ∷ []) ≡ after_last p xs ++ x ∷ []
after_last_more {X} p xs x h =
    let q : X → Bool = λ y. not (p y) in
    let s : suffix_len q (xs ++ x ∷ []) ≡ 1 + suffix_len q xs = suffix_more q xs x ∙ ap (λ b. cond (not b) (1 + suffix_len q xs) 0) h in
    let e : length (xs ++ x ∷ []) - suffix_len q (xs ++ x ∷ []) ≡ length xs - suffix_len q xs = omega (arith, s, length-append xs (x ∷ [])) in
    ap (λ n. drop n (xs ++ x ∷ [])) e ∙ drop-append-le (length xs - suffix_len q xs) xs (x ∷ []) (omega arith)

after_last_ends : {X : Type 0} (p : X → Bool) (xs : List X) (x : X) → p x ≡ true → after_last p (xs ++ x ∷ []) ≡ []
after_last_ends {X} p xs x h =
    let q : X → Bool = λ y. not (p y) in
    let s : suffix_len q (xs ++ x ∷ []) ≡ 0 = suffix_more q xs x ∙ ap (λ b. cond (not b) (1 + suffix_len q xs) 0) h in
    drop_all (length (xs ++ x ∷ []) - suffix_len q (xs ++ x ∷ [])) (xs ++ x ∷ []) (omega (arith, s))

-- a count with one more element
count_yes : {X : Type 0} (p : X → Bool) (xs : List X) (x : X) → p x ≡ true → 1 + count_by p (xs ++ x ∷ []) ≡ 1 + count_by p xs + 1
count_yes p xs x h = let e : count_by p (xs ++ x ∷ []) ≡ count_by p xs + 1 = sum_by_push (λ y. cond (p y) 1 0) xs x ∙ ap (λ b. count_by p xs + cond b 1 0) h in omega (arith, e)

count_no : {X : Type 0} (p : X → Bool) (xs : List X) (x : X) → p x ≡ false → 1 + count_by p (xs ++ x ∷ []) ≡ 1 + count_by p xs
count_no p xs x h = let e : count_by p (xs ++ x ∷ []) ≡ count_by p xs + 0 = sum_by_push (λ y. cond (p y) 1 0) xs x ∙ ap (λ b. count_by p xs + cond b 1 0) h in omega (arith, e)

-- the last line, one byte on
last_line_more : (text : List ℕ) (b : ℕ) → is_line_feed b ≡ false → last_line (text ++ b ∷ []) ≡ last_line text ++ b ∷ []
unfolding last_line
last_line_more = after_last_more is_line_feed

last_line_ends : (text : List ℕ) (b : ℕ) → is_line_feed b ≡ true → last_line (text ++ b ∷ []) ≡ []
unfolding last_line
last_line_ends = after_last_ends is_line_feed

last_line_within : (text : List ℕ) → length (last_line text) ≤ length text
unfolding last_line
last_line_within text = omega (arith, length-drop (length text - suffix_len (λ b. not (is_line_feed b)) text) text)

-- the place, one byte on
behind_line_feed : (text : List ℕ) (b : ℕ) → is_line_feed b ≡ true → place_behind (text ++ b ∷ []) ≡ record { line = (place_behind text).line + 1; column = 1 }
unfolding place_behind
behind_line_feed text b h = cc (count_yes is_line_feed text b h, ap (λ l. 1 + count_by is_char_start l) (last_line_ends text b h))

behind_start : (text : List ℕ) (b : ℕ) → is_line_feed b ≡ false → is_char_start b ≡ true → place_behind (text ++ b ∷ []) ≡ record { line = (place_behind text).line; column = (place_behind text).column + 1 }
unfolding place_behind
behind_start text b h s = cc (count_no is_line_feed text b h, ap (λ l. 1 + count_by is_char_start l) (last_line_more text b h), count_yes is_char_start (last_line text) b s)

behind_inner : (text : List ℕ) (b : ℕ) → is_line_feed b ≡ false → is_char_start b ≡ false → place_behind (text ++ b ∷ []) ≡ place_behind text
unfolding place_behind
behind_inner text b h s = cc (count_no is_line_feed text b h, ap (λ l. 1 + count_by is_char_start l) (last_line_more text b h), count_no is_char_start (last_line text) b s)

-- lines and columns are at most one past the bytes
line_within : (text : List ℕ) → (place_behind text).line ≤ 1 + length text
unfolding place_behind
line_within text = omega (arith, count_by-le-length is_line_feed text)

column_within : (text : List ℕ) → (place_behind text).column ≤ 1 + length text
unfolding place_behind
column_within text = omega (arith, count_by-le-length is_char_start (last_line text), last_line_within text)

-- what adds one without wrapping
pub after_line_feed : (text : List ℕ) (b s : ℕ) (p : LineColumn) → length text < 2 ^ 63 → p ≡ place_behind text → is_line_feed b ≡ true → s ≡ min (p.line + 1) (2 ^ 64 - 1) → record { line = s; column = 1 } ≡ place_behind (text ++ b ∷ [])
after_line_feed text b s p short is h e =
    let line : s ≡ (place_behind text).line + 1 = omega (arith, line_within text, ap (λ (q : LineColumn). q.line) is) in
    ap (λ n. let q : LineColumn = record { line = n; column = 1 } in q) line ∙ sym (behind_line_feed text b h)

pub after_start : (text : List ℕ) (b s : ℕ) (p : LineColumn) → length text < 2 ^ 63 → p ≡ place_behind text → is_line_feed b ≡ false → is_char_start b ≡ true → s ≡ min (p.column + 1) (2 ^ 64 - 1) → record { line = p.line; column = s } ≡ place_behind (text ++ b ∷ [])
after_start text b s p short is h c e =
    let column : s ≡ (place_behind text).column + 1 = omega (arith, column_within text, ap (λ (q : LineColumn). q.column) is) in
    let line : p.line ≡ (place_behind text).line = ap (λ (q : LineColumn). q.line) is in
    ap (λ n. let q : LineColumn = record { line = p.line; column = n } in q) column ∙ ap (λ n. let q : LineColumn = record { line = n; column = (place_behind text).column + 1 } in q) line ∙ sym (behind_start text b h c)

pub after_inner : (text : List ℕ) (b : ℕ) (p : LineColumn) → p ≡ place_behind text → is_line_feed b ≡ false → is_char_start b ≡ false → p ≡ place_behind (text ++ b ∷ [])
after_inner text b p is h c = is ∙ sym (behind_inner text b h c)
