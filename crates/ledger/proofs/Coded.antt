-- Every list of calls is the meaning of some numbers and one text: the texts stand one after the other, each call names its own part, and
-- its eight numbers stand behind those of the calls before it. They fit machine words where the calls' own numbers and the text's length do.
-- A number that is no kind asks for one and the same call.
-- Assumes nothing.
use mathlib.Core.Path.{◌≡◌, refl, sym, ap, ◌∙◌}
use mathlib.Core.Bool.{false}
use mathlib.Core.List.{List, [], ◌∷◌, ◌++◌, append_assoc}
use Prim.Native.Nat.{ℕ, zero, suc, ◌+◌, ◌-◌, ◌*◌, ◌/◌, ◌≤◌, ◌<◌}
use native.Mathlib.Nat.{not-suc-le-zero, zero-add}
use native.Mathlib.Omega.{arith}
use borrow.Author.Tests.{lt-ltb, ne_eqb}
use lib.Dec.{eqb}
use lib.ListN.{length, length-append, get_or, take as first_of}
use lib.Seq.{get_or-append-add, drop-append_seam, take-append_seam, ext_get_or}
use Rattle.finite.proofs.Tables.{length_tabulate, get_d_tabulate}
use Rattle.ledger.specs.declared.Asked.{Asked}
use Rattle.ledger.specs.Ledger.{Call, take, release, move, settle, restate, void}
use Rattle.ledger.specs.Requests.{part_of, call_for, asked_from, asked_at, call_at, calls_in, text_of, numbers_of, texts_of, numbers_from, Below, given, AllBelow}

-- a number that is no kind asks for a void of hour 0, whatever stands beside it
pub no_kind : (text : List ℕ) (a : Asked) → (1 ≤ a.kind → a.kind ≤ 6 → ⊥) → call_for text a ≡ void 0
unfolding call_for
no_kind text a none =
    let other : (n : ℕ) → n < 6 → eqb a.kind (suc n) ≡ false = λ n l. ne_eqb a.kind (suc n) (λ e. none (omega arith) (omega arith)) in
    simp (other 0 (omega arith), other 1 (omega arith), other 2 (omega arith), other 3 (omega arith), other 4 (omega arith), other 5 (omega arith))

-- the part of a text between two others
part_between : (pre text post : List ℕ) → part_of (pre ++ (text ++ post)) (length pre) (length pre + length text) ≡ text
unfolding part_of
part_between pre text post =
    let n : length pre + length text - length pre ≡ length text = omega arith in
    (λ i. first_of (n i) (drop-append_seam pre (text ++ post) i)) ∙ take-append_seam text post

-- a group of numbers means its call
means : (pre post : List ℕ) (c : Call) (ns : List ℕ) → call_for (pre ++ (text_of c ++ post)) (asked_from (numbers_of (length pre) c ++ ns) 0) ≡ c
unfolding call_for
means pre post (take hour unit kwh) ns = refl
means pre post (release hour unit kwh) ns = refl
means pre post (move hour from to kwh) ns = refl
means pre post (settle text start) ns = ap (λ (t : List ℕ). settle t start) (part_between pre text post)
means pre post (restate text start) ns = ap (λ (t : List ℕ). restate t start) (part_between pre text post)
means pre post (void hour) ns = refl

eight : (at : ℕ) (c : Call) → length (numbers_of at c) ≡ 8
eight at (take hour unit kwh) = refl
eight at (release hour unit kwh) = refl
eight at (move hour from to kwh) = refl
eight at (settle text start) = refl
eight at (restate text start) = refl
eight at (void hour) = refl

-- numbers behind others
behind : (ms ns : List ℕ) (at : ℕ) → length ms ≡ at → asked_from (ms ++ ns) at ≡ asked_from ns 0
behind ms ns at e =
    let g : (j : ℕ) → get_or (ms ++ ns) (at + j) 0 ≡ get_or ns j 0 = λ j. ap (λ (n : ℕ). get_or (ms ++ ns) (n + j) 0) (sym e) ∙ get_or-append-add ms ns j 0 in
    let z : at + 0 ≡ at = omega arith in
    λ i. record { kind = (ap (λ (n : ℕ). get_or (ms ++ ns) n 0) (sym z) ∙ g 0) i; hour = g 1 i; unit = g 2 i; to = g 3 i; kwh = g 4 i; begin = g 5 i; end = g 6 i; start = g 7 i }

at_group : (ms ns : List ℕ) (m : ℕ) → length ms ≡ 8 * m → 8 ≤ length ns → asked_at (ms ++ ns) m ≡ asked_from ns 0
unfolding asked_at
at_group ms ns m e h =
    let room : m < length (ms ++ ns) / 8 = omega (arith, e, length-append ms ns) in
    simp (lt-ltb m (length (ms ++ ns) / 8) room) (behind ms ns (8 * m) e)

call_at_lem : (cs : List Call) (ms pre : List ℕ) (m : ℕ) → length ms ≡ 8 * m → (i : ℕ) → i < length cs
    → call_at (ms ++ numbers_from (length pre) cs) (pre ++ texts_of cs) (m + i) ≡ get_or cs i (void 0)
unfolding call_at numbers_from texts_of
call_at_lem [] ms pre m e i h = absurd (not-suc-le-zero h)
call_at_lem (c ∷ cs) ms pre m e zero h =
    let group = numbers_of (length pre) c in
    let rest = numbers_from (length pre + length (text_of c)) cs in
    let z : m + 0 ≡ m = omega arith in
    let long : 8 ≤ length (group ++ rest) = omega (arith, length-append group rest, eight (length pre) c) in
    ap (λ (n : ℕ). call_for (pre ++ (text_of c ++ texts_of cs)) (asked_at (ms ++ (group ++ rest)) n)) z
    ∙ (ap (call_for (pre ++ (text_of c ++ texts_of cs))) (at_group ms (group ++ rest) m e long) ∙ means pre (texts_of cs) c rest)
call_at_lem (c ∷ cs) ms pre m e (suc i) h =
    let group = numbers_of (length pre) c in
    let rest = numbers_from (length pre + length (text_of c)) cs in
    let z : m + suc i ≡ suc m + i = omega arith in
    let n : length pre + length (text_of c) ≡ length (pre ++ text_of c) = sym (length-append pre (text_of c)) in
    let numbers : ms ++ (group ++ rest) ≡ (ms ++ group) ++ numbers_from (length (pre ++ text_of c)) cs =
    sym (append_assoc ms group rest) ∙ ap (λ (k : ℕ). (ms ++ group) ++ numbers_from k cs) n in
    let text : pre ++ (text_of c ++ texts_of cs) ≡ (pre ++ text_of c) ++ texts_of cs = sym (append_assoc pre (text_of c) (texts_of cs)) in
    (λ j. call_for (text j) (asked_at (numbers j) (z j)))
    ∙ call_at_lem cs (ms ++ group) (pre ++ text_of c) (suc m) (omega (arith, length-append ms group, eight (length pre) c, e)) i (omega arith)

-- the numbers and the text of a list of calls mean that list
pub coded : (cs : List Call) → calls_in (numbers_from 0 cs) (texts_of cs) (length cs) ≡ cs
coded cs =
    ext_get_or (void 0) (calls_in (numbers_from 0 cs) (texts_of cs) (length cs)) cs (length_tabulate (length cs) (call_at (numbers_from 0 cs) (texts_of cs)))
    (λ i h. let b : i < length cs = omega (arith, length_tabulate (length cs) (call_at (numbers_from 0 cs) (texts_of cs))) in
    get_d_tabulate (length cs) (call_at (numbers_from 0 cs) (texts_of cs)) i (void 0) b
    ∙ (ap (call_at (numbers_from 0 cs) (texts_of cs)) (sym (zero-add i)) ∙ call_at_lem cs [] [] 0 refl i b))

-- the size of the numbers
module _ (n : ℕ) (some : 6 < n) where
  below_append : (xs ys : List ℕ) → Below n xs → Below n ys → Below n (xs ++ ys)
  below_append [] ys a b = b
  below_append (x ∷ xs) ys (h, a) b = (h, below_append xs ys a b)

  numbers_below : (at : ℕ) (c : Call) → at + length (text_of c) < n → Below n (given c) → Below n (numbers_of at c)
  numbers_below at (take hour unit kwh) t (h, (u, (k, tt))) =
      (omega arith, (h, (u, (omega arith, (k, (omega arith, (omega arith, (omega arith, tt))))))))
  numbers_below at (release hour unit kwh) t (h, (u, (k, tt))) =
      (omega arith, (h, (u, (omega arith, (k, (omega arith, (omega arith, (omega arith, tt))))))))
  numbers_below at (move hour from to kwh) t (h, (u, (v, (k, tt)))) =
      (omega arith, (h, (u, (v, (k, (omega arith, (omega arith, (omega arith, tt))))))))
  numbers_below at (settle text start) t (s, tt) =
      (omega arith, (omega arith, (omega arith, (omega arith, (omega arith, (omega arith, (t, (s, tt))))))))
  numbers_below at (restate text start) t (s, tt) =
      (omega arith, (omega arith, (omega arith, (omega arith, (omega arith, (omega arith, (t, (s, tt))))))))
  numbers_below at (void hour) t (h, tt) =
      (omega arith, (h, (omega arith, (omega arith, (omega arith, (omega arith, (omega arith, (omega arith, tt))))))))

  from_below : (at : ℕ) (cs : List Call) → at + length (texts_of cs) < n → AllBelow n cs → Below n (numbers_from at cs)
  unfolding texts_of numbers_from
  from_below at [] t b = tt
  from_below at (c ∷ cs) t (b, bs) =
      let l = length-append (text_of c) (texts_of cs) in
      below_append (numbers_of at c) (numbers_from (at + length (text_of c)) cs) (numbers_below at c (omega (arith, l)) b)
      (from_below (at + length (text_of c)) cs (omega (arith, l)) bs)

  pub coded_below : (cs : List Call) → length (texts_of cs) < n → AllBelow n cs → Below n (numbers_from 0 cs)
  coded_below cs t b = from_below 0 cs (omega arith) b
