-- The laws of `put` and `part`. Where a store has to lie within the list, a law says so; the others hold of any place. Assumes nothing.
use mathlib.Core.Path.{◌≡◌, refl, sym, ap, ◌∙◌}
use Prim.Native.Nat.{ℕ, zero, suc, ◌+◌, ◌-◌, ◌/◌, ◌%◌, ◌^◌, ◌≤◌, ◌<◌}
use native.Mathlib.Omega.{arith}
use mathlib.Core.List.{List, [], ◌∷◌, ◌++◌, append_assoc}
use lib.ListN.{length, get_or, take, drop, length-drop}
use lib.Seq.{take-add, drop-drop, get_or-take, get_or-drop, length-take-le}
use Rattle.std.specs.List.{copy_within}
use Rattle.std.specs.Int.{w64, to_le_bytes}
use Rattle.memory.specs.Bytes.{part, put, bytes, word, header}

-- ---- lengths

pub length-put : (xs : List ℕ) (a : ℕ) (ys : List ℕ) → length (put xs a ys) ≡ length xs
unfolding put
length-put [] a ys = refl
length-put (x ∷ xs) (suc a) ys = ap suc (length-put xs a ys)
length-put (x ∷ xs) zero [] = refl
length-put (x ∷ xs) zero (y ∷ ys) = ap suc (length-put xs zero ys)

pub length_part : (xs : List ℕ) (a n : ℕ) → a + n ≤ length xs → length (part xs a n) ≡ n
unfolding part
length_part xs a n h = length-take-le n (drop a xs) (simp length-drop (omega arith))

-- ---- one part after another

pub part-part : (xs : List ℕ) (a m n : ℕ) → part xs a (m + n) ≡ part xs a m ++ part xs (a + m) n
unfolding part
part-part xs a m n = simp (take-add, drop-drop)

pub part_none : (xs : List ℕ) (a : ℕ) → part xs a 0 ≡ []
unfolding part
part_none xs a = refl

pub put_none : (xs : List ℕ) (a : ℕ) → put xs a [] ≡ xs
unfolding put
put_none [] a = refl
put_none (x ∷ xs) (suc a) = ap (λ (l : List ℕ). x ∷ l) (put_none xs a)
put_none (x ∷ xs) zero = refl

-- ys is stored, and then zs right after it
pub put_after : (xs : List ℕ) (a b : ℕ) (ys zs : List ℕ) → b ≡ a + length ys → put (put xs a ys) b zs ≡ put xs a (ys ++ zs)
unfolding put
put_after [] a b ys zs e = refl
put_after (x ∷ xs) (suc a) zero ys zs e = absurd (omega arith)
put_after (x ∷ xs) (suc a) (suc b) ys zs e = ap (λ (l : List ℕ). x ∷ l) (put_after xs a b ys zs (omega arith))
put_after (x ∷ xs) zero zero [] zs e = refl
put_after (x ∷ xs) zero (suc b) [] zs e = absurd (omega arith)
put_after (x ∷ xs) zero zero (y ∷ ys) zs e = absurd (omega arith)
put_after (x ∷ xs) zero (suc b) (y ∷ ys) zs e = ap (λ (l : List ℕ). y ∷ l) (put_after xs zero b ys zs (omega arith))

-- zs is stored, and then ys right before it
pub put_before : (xs : List ℕ) (a b : ℕ) (ys zs : List ℕ) → b ≡ a + length ys → put (put xs b zs) a ys ≡ put xs a (ys ++ zs)
unfolding put
put_before [] a b ys zs e = refl
put_before (x ∷ xs) (suc a) zero ys zs e = absurd (omega arith)
put_before (x ∷ xs) (suc a) (suc b) ys zs e = ap (λ (l : List ℕ). x ∷ l) (put_before xs a b ys zs (omega arith))
put_before (x ∷ xs) zero zero [] zs e = put_none (put (x ∷ xs) zero zs) zero
put_before (x ∷ xs) zero (suc b) [] zs e = absurd (omega arith)
put_before (x ∷ xs) zero zero (y ∷ ys) zs e = absurd (omega arith)
put_before (x ∷ xs) zero (suc b) (y ∷ ys) zs e = ap (λ (l : List ℕ). y ∷ l) (put_before xs zero b ys zs (omega arith))

-- ---- what a store leaves as it was

pub drop-put : (xs : List ℕ) (a : ℕ) (ys : List ℕ) (b : ℕ) → a + length ys ≤ b → drop b (put xs a ys) ≡ drop b xs
unfolding put
drop-put [] a ys b h = refl
drop-put (x ∷ xs) (suc a) ys zero h = absurd (omega arith)
drop-put (x ∷ xs) (suc a) ys (suc b) h = drop-put xs a ys b (omega arith)
drop-put (x ∷ xs) zero [] b h = refl
drop-put (x ∷ xs) zero (y ∷ ys) zero h = absurd (omega arith)
drop-put (x ∷ xs) zero (y ∷ ys) (suc b) h = drop-put xs zero ys b (omega arith)

pub part-put_after : (xs : List ℕ) (a : ℕ) (ys : List ℕ) (b n : ℕ) → a + length ys ≤ b → part (put xs a ys) b n ≡ part xs b n
unfolding part
part-put_after xs a ys b n h = ap (take n) (drop-put xs a ys b h)

pub part-put_before : (xs : List ℕ) (a : ℕ) (ys : List ℕ) (b n : ℕ) → b + n ≤ a → part (put xs a ys) b n ≡ part xs b n
unfolding part put
part-put_before [] a ys b n h = refl
part-put_before (x ∷ xs) (suc a) ys (suc b) n h = part-put_before xs a ys b n (omega arith)
part-put_before (x ∷ xs) (suc a) ys zero zero h = refl
part-put_before (x ∷ xs) (suc a) ys zero (suc n) h = ap (λ (l : List ℕ). x ∷ l) (part-put_before xs a ys zero n (omega arith))
part-put_before (x ∷ xs) zero ys zero zero h = refl
part-put_before (x ∷ xs) zero ys zero (suc n) h = absurd (omega arith)
part-put_before (x ∷ xs) zero ys (suc b) n h = absurd (omega arith)

-- ---- what a store stores

pub part-put : (xs : List ℕ) (a : ℕ) (ys : List ℕ) → a + length ys ≤ length xs → part (put xs a ys) a (length ys) ≡ ys
unfolding part put
part-put [] zero [] h = refl
part-put [] zero (y ∷ ys) h = absurd (omega arith)
part-put [] (suc a) ys h = absurd (omega arith)
part-put (x ∷ xs) (suc a) ys h = part-put xs a ys (omega arith)
part-put (x ∷ xs) zero [] h = refl
part-put (x ∷ xs) zero (y ∷ ys) h = ap (λ (l : List ℕ). y ∷ l) (part-put xs zero ys (omega arith))

-- a store over a store of as many
pub put_over : (xs : List ℕ) (a : ℕ) (ys zs : List ℕ) → length ys ≡ length zs → put (put xs a ys) a zs ≡ put xs a zs
unfolding put
put_over [] a ys zs e = refl
put_over (x ∷ xs) (suc a) ys zs e = ap (λ (l : List ℕ). x ∷ l) (put_over xs a ys zs e)
put_over (x ∷ xs) zero [] [] e = refl
put_over (x ∷ xs) zero [] (z ∷ zs) e = absurd (omega arith)
put_over (x ∷ xs) zero (y ∷ ys) [] e = absurd (omega arith)
put_over (x ∷ xs) zero (y ∷ ys) (z ∷ zs) e = ap (λ (l : List ℕ). z ∷ l) (put_over xs zero ys zs (omega arith))

-- two stores that do not touch each other, in either order
pub put_apart : (xs : List ℕ) (a b : ℕ) (ys zs : List ℕ) → a + length ys ≤ b → put (put xs a ys) b zs ≡ put (put xs b zs) a ys
unfolding put
put_apart [] a b ys zs h = refl
put_apart (x ∷ xs) (suc a) zero ys zs h = absurd (omega arith)
put_apart (x ∷ xs) (suc a) (suc b) ys zs h = ap (λ (l : List ℕ). x ∷ l) (put_apart xs a b ys zs (omega arith))
put_apart (x ∷ xs) zero b [] zs h = sym (put_none (put (x ∷ xs) b zs) zero)
put_apart (x ∷ xs) zero zero (y ∷ ys) zs h = absurd (omega arith)
put_apart (x ∷ xs) zero (suc b) (y ∷ ys) zs h = ap (λ (l : List ℕ). y ∷ l) (put_apart xs zero b ys zs (omega arith))

-- a part of what a store stores
pub part-put_in : (xs : List ℕ) (a : ℕ) (ys : List ℕ) (b c n : ℕ) → c ≡ a + b → b + n ≤ length ys → a + length ys ≤ length xs → part (put xs a ys) c n ≡ part ys b n
unfolding part put
part-put_in [] a [] b c n e h l = let z : n ≡ 0 = omega arith in rw z
part-put_in [] a (y ∷ ys) b c n e h l = absurd (omega arith)
part-put_in (x ∷ xs) (suc a) ys b zero n e h l = absurd (omega arith)
part-put_in (x ∷ xs) (suc a) ys b (suc c) n e h l = part-put_in xs a ys b c n (omega arith) h (omega arith)
part-put_in (x ∷ xs) zero [] b c n e h l = let z : n ≡ 0 = omega arith in rw z
part-put_in (x ∷ xs) zero (y ∷ ys) zero zero zero e h l = refl
part-put_in (x ∷ xs) zero (y ∷ ys) zero zero (suc n) e h l = ap (λ (r : List ℕ). y ∷ r) (part-put_in xs zero ys zero zero n e (omega arith) (omega arith))
part-put_in (x ∷ xs) zero (y ∷ ys) (suc b) (suc c) n e h l = part-put_in xs zero ys b c n (omega arith) (omega arith) (omega arith)
part-put_in (x ∷ xs) zero (y ∷ ys) zero (suc c) n e h l = absurd (omega arith)
part-put_in (x ∷ xs) zero (y ∷ ys) (suc b) zero n e h l = absurd (omega arith)

-- ---- one element

pub get_or-part : (xs : List ℕ) (a n i d : ℕ) → i < n → get_or (part xs a n) i d ≡ get_or xs (a + i) d
unfolding part
get_or-part xs a n i d h = rw (get_or-take, get_or-drop)

pub get_or-put_before : (xs : List ℕ) (a : ℕ) (ys : List ℕ) (i d : ℕ) → i < a → get_or (put xs a ys) i d ≡ get_or xs i d
unfolding put
get_or-put_before [] a ys i d h = refl
get_or-put_before (x ∷ xs) (suc a) ys zero d h = refl
get_or-put_before (x ∷ xs) (suc a) ys (suc i) d h = get_or-put_before xs a ys i d (omega arith)
get_or-put_before (x ∷ xs) zero ys i d h = absurd (omega arith)

pub get_or-put_after : (xs : List ℕ) (a : ℕ) (ys : List ℕ) (i d : ℕ) → a + length ys ≤ i → get_or (put xs a ys) i d ≡ get_or xs i d
unfolding put
get_or-put_after [] a ys i d h = refl
get_or-put_after (x ∷ xs) (suc a) ys zero d h = refl
get_or-put_after (x ∷ xs) (suc a) ys (suc i) d h = get_or-put_after xs a ys i d (omega arith)
get_or-put_after (x ∷ xs) zero [] i d h = refl
get_or-put_after (x ∷ xs) zero (y ∷ ys) zero d h = absurd (omega arith)
get_or-put_after (x ∷ xs) zero (y ∷ ys) (suc i) d h = get_or-put_after xs zero ys i d (omega arith)

pub get_or-put_in : (xs : List ℕ) (a : ℕ) (ys : List ℕ) (i j d : ℕ) → j ≡ a + i → i < length ys → j < length xs → get_or (put xs a ys) j d ≡ get_or ys i d
unfolding put
get_or-put_in [] a ys i j d e h l = absurd (omega arith)
get_or-put_in (x ∷ xs) (suc a) ys i zero d e h l = absurd (omega arith)
get_or-put_in (x ∷ xs) (suc a) ys i (suc j) d e h l = get_or-put_in xs a ys i j d (omega arith) h (omega arith)
get_or-put_in (x ∷ xs) zero [] i j d e h l = absurd (omega arith)
get_or-put_in (x ∷ xs) zero (y ∷ ys) zero zero d e h l = refl
get_or-put_in (x ∷ xs) zero (y ∷ ys) zero (suc j) d e h l = absurd (omega arith)
get_or-put_in (x ∷ xs) zero (y ∷ ys) (suc i) zero d e h l = absurd (omega arith)
get_or-put_in (x ∷ xs) zero (y ∷ ys) (suc i) (suc j) d e h l = get_or-put_in xs zero ys i j d (omega arith) (omega arith) (omega arith)

-- ---- words and messages

pub length-word : (v : ℕ) → length (word v) ≡ 8
unfolding word bytes
length-word v = refl

pub length-header : (first rlabel label : ℕ) → length (header first rlabel label) ≡ 32
unfolding header word bytes
length-header first rlabel label = refl

-- a message, from its end to its start
pub message : (xs p : List ℕ) (to first rlabel label : ℕ)
    → put (put (put (put (put xs (to + 32) p) (to + 24) (word 0)) (to + 16) (word label)) (to + 8) (word rlabel)) to (word first)
    ≡ put xs to (header first rlabel label ++ p)
unfolding header
message xs p to first rlabel label =
    rw (
      put_before xs (to + 24) (to + 32) (word 0) p (omega (arith, length-word 0)),
      put_before xs (to + 16) (to + 24) (word label) (word 0 ++ p) (omega (arith, length-word label)),
      put_before xs (to + 8) (to + 16) (word rlabel) (word label ++ (word 0 ++ p)) (omega (arith, length-word rlabel)),
      put_before xs to (to + 8) (word first) (word rlabel ++ (word label ++ (word 0 ++ p))) (omega (arith, length-word first)),
    ) (simp append_assoc)

-- a store of no element
pub put_empty : (xs : List ℕ) (a from n : ℕ) → n ≡ 0 → put xs a (part xs from n) ≡ xs
put_empty xs a from n z = rw (z, part_none, put_none)

-- ---- a store that lies within the list, by what is left before and after it
put-splice : (xs : List ℕ) (a b : ℕ) (ys : List ℕ) → b ≡ a + length ys → b ≤ length xs → take a xs ++ (ys ++ drop b xs) ≡ put xs a ys
unfolding put
put-splice [] zero b [] e h = let z : b ≡ 0 = omega arith in rw z
put-splice [] zero b (y ∷ ys) e h = absurd (omega arith)
put-splice [] (suc a) b ys e h = absurd (omega arith)
put-splice (x ∷ xs) (suc a) zero ys e h = absurd (omega arith)
put-splice (x ∷ xs) (suc a) (suc b) ys e h = ap (λ (l : List ℕ). x ∷ l) (put-splice xs a b ys (omega arith) (omega arith))
put-splice (x ∷ xs) zero b [] e h = let z : b ≡ 0 = omega arith in rw z
put-splice (x ∷ xs) zero zero (y ∷ ys) e h = absurd (omega arith)
put-splice (x ∷ xs) zero (suc b) (y ∷ ys) e h = ap (λ (l : List ℕ). y ∷ l) (put-splice xs zero b ys (omega arith) (omega arith))

pub put_within : (xs : List ℕ) (from to n : ℕ) → from + n ≤ length xs → to + n ≤ length xs → copy_within xs from (from + n) to ≡ put xs to (part xs from n)
unfolding part
put_within xs from to n h k =
    let e : from + n - from ≡ n = omega arith in
    rw (e, append_assoc) (put-splice xs to (to + n) (take n (drop from xs)) (omega (arith, length_part xs from n h)) k)

-- ---- a move in two parts, of which the first has k elements: downwards that part goes first, upwards the other
parted : (xs : List ℕ) (from to n k : ℕ) → k ≤ n → put xs to (part xs from k ++ part xs (from + k) (n - k)) ≡ put xs to (part xs from n)
parted xs from to n k h =
    let e : k + (n - k) ≡ n = omega arith in
    ap (put xs to) (sym (part-part xs from k (n - k)) ∙ ap (part xs from) e)

pub downwards : (xs : List ℕ) (from to n k : ℕ) → to ≤ from → k ≤ n → from + n ≤ length xs
    → copy_within (copy_within xs from (from + k) to) (from + k) (from + n) (to + k) ≡ put xs to (part xs from n)
downwards xs from to n k h i j =
    let l : length (part xs from k) ≡ k = length_part xs from k (omega arith) in
    let m : length (put xs to (part xs from k)) ≡ length xs = length-put xs to (part xs from k) in
    let e : from + n ≡ from + k + (n - k) = omega arith in
    rw (
      put_within xs from to k (omega arith) (omega arith),
      e,
      put_within (put xs to (part xs from k)) (from + k) (to + k) (n - k) (omega (arith, m)) (omega (arith, m)),
      part-put_after xs to (part xs from k) (from + k) (n - k) (omega (arith, l)),
    )
    (put_after xs to (to + k) (part xs from k) (part xs (from + k) (n - k)) (omega (arith, l)) ∙ parted xs from to n k i)

pub upwards : (xs : List ℕ) (from to n k : ℕ) → from ≤ to → k ≤ n → to + n ≤ length xs
    → copy_within (copy_within xs (from + k) (from + n) (to + k)) from (from + k) to ≡ put xs to (part xs from n)
upwards xs from to n k h i j =
    let l : length (part xs from k) ≡ k = length_part xs from k (omega arith) in
    let m : length (put xs (to + k) (part xs (from + k) (n - k))) ≡ length xs = length-put xs (to + k) (part xs (from + k) (n - k)) in
    let e : from + n ≡ from + k + (n - k) = omega arith in
    rw (
      e,
      put_within xs (from + k) (to + k) (n - k) (omega arith) (omega arith),
      put_within (put xs (to + k) (part xs (from + k) (n - k))) from to k (omega (arith, m)) (omega (arith, m)),
      part-put_before xs (to + k) (part xs (from + k) (n - k)) from k (omega arith),
    )
    (put_before xs to (to + k) (part xs from k) (part xs (from + k) (n - k)) (omega (arith, l)) ∙ parted xs from to n k i)

-- the eight bytes of a word, as the library takes them
pub word_is : (v : ℕ) → to_le_bytes w64 v ≡ word v
unfolding word bytes
word_is v =
    let b₁ : v / 256 ^ 1 % 256 ≡ v / 256 % 256 = omega arith in
    let b₂ : v / 256 ^ 2 % 256 ≡ v / 256 / 256 % 256 = omega arith in
    let b₃ : v / 256 ^ 3 % 256 ≡ v / 256 / 256 / 256 % 256 = omega arith in
    let b₄ : v / 256 ^ 4 % 256 ≡ v / 256 / 256 / 256 / 256 % 256 = omega arith in
    let b₅ : v / 256 ^ 5 % 256 ≡ v / 256 / 256 / 256 / 256 / 256 % 256 = omega arith in
    let b₆ : v / 256 ^ 6 % 256 ≡ v / 256 / 256 / 256 / 256 / 256 / 256 % 256 = omega arith in
    let b₇ : v / 256 ^ 7 % 256 ≡ v / 256 / 256 / 256 / 256 / 256 / 256 / 256 % 256 = omega arith in
    rw (b₁, b₂, b₃, b₄, b₅, b₆, b₇)

pub put_word : (xs : List ℕ) (a k v : ℕ) → k ≡ 8 → a + 8 ≤ length xs → take a xs ++ (word v ++ drop k (drop a xs)) ≡ put xs a (word v)
unfolding word bytes
put_word xs a k v e h = rw (drop-drop) (put-splice xs a _ (word v) (omega arith) (omega arith))
