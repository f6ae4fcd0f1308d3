-- A value that a row accepts keeps to the row: its groups are whole, each number lies in the range of its part, pairs are in order.
-- The numbers come one by one, and each is tested before it is added; so what holds of those before holds of all.
-- Assumes nothing.
use mathlib.Core.Path.{◌≡◌, refl, ap, sym, ◌∙◌, subst}
use mathlib.Core.Bool.{Bool, true, false, cond}
use mathlib.Core.List.{List, [], ◌∷◌}
use Prim.Native.Nat.{ℕ, zero, suc, ◌+◌, ◌*◌, ◌-◌, ◌/◌, ◌≤◌, ◌<◌}
use native.Mathlib.Nat.{zero-add}
use native.Mathlib.Omega.{arith}
use native.Mathlib.Numerals.{add-one}
use borrow.Author.Tests.{ltb-false, eqb-true}
use lib.Dec.{ltb, eqb}
use lib.ListN.{length, get_or, set, take, drop, length-set}
use lib.Seq.{get_or-set_same, get_or-set_other}
use Rattle.finite.proofs.Sums.{extend}
use Rattle.std.specs.Prelude.{Option, Some, None, Result, Ok, Err}
use Rattle.text.specs.declared.TextFault.{TextFault}
use Rattle.text.specs.declared.TextFault.TheVariants.{BadValue}
use Rattle.text.specs.declared.Row.{Row}
use Rattle.text.specs.declared.Line.{Line}
use Rattle.text.specs.Text.{seek, digits, at_least, leading_zero, number_in}
use Rattle.text.specs.Rows.{no_line}
use Rattle.values.specs.Values.{added, given, last, part_next, mark_due, numbers, rising, checked, value_of}

-- the part of its group that number i of a value is
unfoldable pub part_of : ℕ → ℕ → ℕ
part_of parts zero = 0
part_of parts (suc i) = part_next parts (part_of parts i)

-- number i lies in the range of its part
pub record Within (low high : List ℕ) (parts : ℕ) (number : List ℕ) (i : ℕ) : Type 0 where
  pub least : get_or low (part_of parts i) 0 ≤ get_or number i 0
  pub most : get_or number i 0 ≤ get_or high (part_of parts i) 0

-- the line keeps to the row
pub record Fits (row : Row) (l : Line) : Type 0 where
  pub some : row.blank ≡ false → 0 < l.count
  pub few : l.count ≤ row.most
  pub groups : part_of row.parts l.count ≡ 0
  pub within : (i : ℕ) → i < l.count → Within row.low row.high row.parts l.number i
  pub in_order_lem : row.order ≡ true → rising l.number 0 (l.count / 2) 0 0 ≡ true

module _ (high : ℕ) where
  digits_le : (s : List ℕ) (n m : ℕ) → n ≤ high → digits high n s ≡ Some m → m ≤ high
  unfolding digits
  digits_le [] n m h e = let q : n ≡ m = cc in omega arith
  digits_le (x ∷ xs) n m h e = step (ltb x 48) (ltb 57 x) (ltb high next) refl (λ g. digits_le xs next m g) e
    where
      next : ℕ
      next = n * 10 + (x - 48)

      step : (a b t : Bool) → ltb high next ≡ t → (next ≤ high → digits high next xs ≡ Some m → m ≤ high)
          → cond a None (cond b None (cond t None (digits high next xs))) ≡ Some m → m ≤ high
      step true b t et rec e = let z : ◌≡◌ {A = ℕ} 0 1 = cc in omega arith
      step false true t et rec e = let z : ◌≡◌ {A = ℕ} 0 1 = cc in omega arith
      step false false true et rec e = let z : ◌≡◌ {A = ℕ} 0 1 = cc in omega arith
      step false false false et rec e = rec (ltb-false _ _ et) e

at_least_lem : (low : ℕ) (r : Option ℕ) (m : ℕ) → at_least low r ≡ Some m → (low ≤ m) × (r ≡ Some m)
at_least_lem low None m e = let z : ◌≡◌ {A = ℕ} 0 1 = cc in (omega arith, cc)
at_least_lem low (Some n) m e = by (ltb n low) refl e
  where
    by : (t : Bool) → ltb n low ≡ t → cond t None (Some n) ≡ Some m → (low ≤ m) × (Some n ≡ Some m)
    by true et e = let z : ◌≡◌ {A = ℕ} 0 1 = cc in (omega arith, cc)
    by false et e = let q : n ≡ m = cc in (omega (arith, ltb-false n low et), e)

-- a number that is read lies in its range
pub number_range : (low high : ℕ) (s : List ℕ) (m : ℕ) → number_in low high s ≡ Some m → (low ≤ m) × (m ≤ high)
unfolding number_in
number_range low high s m e = by (eqb (length s) 0) (leading_zero s) e
  where
    by : (a b : Bool) → cond a None (cond b None (at_least low (digits high 0 s))) ≡ Some m → (low ≤ m) × (m ≤ high)
    by true b e = let z : ◌≡◌ {A = ℕ} 0 1 = cc in (omega arith, omega arith)
    by false true e = let z : ◌≡◌ {A = ℕ} 0 1 = cc in (omega arith, omega arith)
    by false false e =
        let q = at_least_lem low (digits high 0 s) m e in
        (q.0, digits_le high s 0 m (omega arith) q.1)

-- a refusal is no line, and a line is the one that it is
not_ok : (f : TextFault) (l : Line) → Err f ≡ Ok l → ⊥
not_ok f l e = cc

same_ok : (k l : Line) → ◌≡◌ {A = Result Line TextFault} (Ok k) (Ok l) → k ≡ l
same_ok k l e = cc

-- a line that is chosen by a test
either : (t : Bool) (P : Line → Type 0) (x y : Result Line TextFault) → (t ≡ true → (l : Line) → x ≡ Ok l → P l)
    → (t ≡ false → (l : Line) → y ≡ Ok l → P l) → (l : Line) → cond t x y ≡ Ok l → P l
either true P x y f g = f refl
either false P x y f g = g refl

module _ (low high : List ℕ) (parts : ℕ) where
  -- what holds of a line while its numbers come, the next of which is part p of its group
  record Sofar (p : ℕ) (l : Line) : Type 0 where
    long : length l.number ≡ 24
    part : part_of parts l.count ≡ p
    within : (i : ℕ) → i < l.count → Within low high parts l.number i

  record Done (bound : ℕ) (l : Line) : Type 0 where
    sofar : Sofar 0 l
    some : 0 < l.count
    few : l.count ≤ bound

  part_on : (i p : ℕ) → part_of parts i ≡ p → part_of parts (i + 1) ≡ part_next parts p
  unfolding part_of
  part_on i p e = ap (part_of parts) (add-one i) ∙ ap (part_next parts) e

  -- one number more, in its range
  grown : (p n : ℕ) (l : Line) → Sofar p l → l.count < 24 → get_or low p 0 ≤ n → n ≤ get_or high p 0 → Sofar (part_next parts p) (added l n)
  grown p n l s h a b =
      record {
        long = length-set l.number l.count n ∙ s.long;
        part = part_on l.count p s.part;
        within = λ i k. rest i (subst (λ (m : ℕ). i < m) (add-one l.count) k);
      }
    where
      same : (i : ℕ) → i < l.count → get_or (set l.number l.count n) i 0 ≡ get_or l.number i 0
      same i k = get_or-set_other l.number l.count i n 0 (λ e. omega arith)

      new : get_or (set l.number l.count n) l.count 0 ≡ n
      new = get_or-set_same l.number l.count n 0 (omega (arith, s.long))

      rest : (i : ℕ) → i < suc l.count → Within low high parts (set l.number l.count n) i
      rest =
          extend (λ i. Within low high parts (set l.number l.count n) i) l.count
          (λ i k. record { least = rw (same i k) (s.within i k).least; most = rw (same i k) (s.within i k).most })
          (record { least = rw (new, s.part) a; most = rw (new, s.part) b })

  -- the bound on the count of one number more, and of `left` behind it
  counted : (n left : ℕ) (l : Line) → (added l n).count + left ≡ l.count + suc left
  counted n left l = omega arith

  numbers_fit : (left p : ℕ) (s : List ℕ) (l : Line) → Sofar p l → l.count + left ≤ 24 → (m : Line) → numbers low high parts left p s l ≡ Ok m
      → Done (l.count + left) m
  unfolding numbers
  numbers_fit zero p s l sofar h = λ m e. absurd (not_ok _ _ e)
  numbers_fit (suc left) p s l sofar h =
      by (number_in (get_or low p 0) (get_or high p 0) (take (seek 58 44 s) s)) refl (λ n. numbers_fit left (part_next parts p) rest (added l n))
    where
      rest : List ℕ
      rest = drop (suc (seek 58 44 s)) s

      -- what the line is, by the number that stands next
      outcome : Option ℕ → Result Line TextFault
      outcome r = given r (λ n.
          cond (ltb (seek 58 44 s) (length s))
          (cond (eqb (get_or s (seek 58 44 s) 0) (mark_due parts p)) (numbers low high parts left (part_next parts p) rest (added l n)) (Err BadValue))
          (cond (last parts p) (Ok (added l n)) (Err BadValue)))

      by : (r : Option ℕ) → number_in (get_or low p 0) (get_or high p 0) (take (seek 58 44 s) s) ≡ r
          → ((n : ℕ) → Sofar (part_next parts p) (added l n) → (added l n).count + left ≤ 24
          → (m : Line) → numbers low high parts left (part_next parts p) rest (added l n) ≡ Ok m
          → Done ((added l n).count + left) m)
          → (m : Line) → outcome r ≡ Ok m → Done (l.count + suc left) m
      by None er more = λ m e. absurd (not_ok _ _ e)
      by (Some n) er more =
          let range = number_range (get_or low p 0) (get_or high p 0) (take (seek 58 44 s) s) n er in
          let next : Sofar (part_next parts p) (added l n) = grown p n l sofar (omega arith) range.0 range.1 in
          let none : (m : Line) → Err BadValue ≡ Ok m → Done (l.count + suc left) m = λ m e. absurd (not_ok _ _ e) in
          either (ltb (seek 58 44 s) (length s)) (Done (l.count + suc left)) _ _
          (λ _. either (eqb (get_or s (seek 58 44 s) 0) (mark_due parts p)) (Done (l.count + suc left)) _ _
          (λ _ m e. subst (λ (k : ℕ). Done k m) (counted n left l) (more n next (omega arith) m e))
          (λ _. none))
          (λ _. either (last parts p) (Done (l.count + suc left)) _ _
          (λ t m e. subst (Done (l.count + suc left)) (same_ok _ _ e)
          (record { sofar = subst (λ (b : Bool). Sofar (cond b 0 (p + 1)) (added l n)) t next; some = omega arith; few = omega arith }))
          (λ _. none))

none_yet : (low high : List ℕ) (parts : ℕ) → Sofar low high parts 0 no_line
unfolding part_of
none_yet low high parts = record { long = refl; part = refl; within = λ i h. absurd (let z : 1 ≤ 0 = omega arith in omega arith) }

-- a blank value, and one whose numbers are all read
both : true ≡ false → ⊥
both e = cc

blank_fits : (row : Row) → row.blank ≡ true → Fits row no_line
unfolding part_of rising
blank_fits row b =
    record {
      some = λ n. absurd (both (sym b ∙ n));
      few = omega arith;
      groups = refl;
      within = λ i h. absurd (let z : 1 ≤ 0 = omega arith in omega arith);
      in_order_lem = λ o. refl;
    }

done_fits : (row : Row) (l : Line) → Done row.low row.high row.parts row.most l
    → (row.order ≡ true → rising l.number 0 (l.count / 2) 0 0 ≡ true) → Fits row l
done_fits row l d o = record { some = λ n. d.some; few = d.few; groups = d.sofar.part; within = d.sofar.within; in_order_lem = o }

checked_fits : (row : Row) → row.most ≤ 24 → (s : List ℕ) (r : Result Line TextFault) → numbers row.low row.high row.parts row.most 0 s no_line ≡ r
    → (l : Line) → checked row r ≡ Ok l → Fits row l
checked_fits row few s (Err f) e = λ l q. absurd (not_ok _ _ q)
checked_fits row few s (Ok m) e =
    let done : Done row.low row.high row.parts row.most m =
    simp zero-add at (numbers_fit row.low row.high row.parts row.most 0 s no_line (none_yet row.low row.high row.parts) (omega arith) m e) in
    either row.order (Fits row) _ _
    (λ o. either (rising m.number 0 (m.count / 2) 0 0) (Fits row) _ _
    (λ r l q. subst (Fits row) (same_ok _ _ q) (done_fits row m done (λ _. r)))
    (λ _ l q. absurd (not_ok _ _ q)))
    (λ o l q. subst (Fits row) (same_ok _ _ q) (done_fits row m done (λ t. absurd (both (sym t ∙ o)))))

-- a value that the row accepts keeps to the row
pub value_fits : (row : Row) (s : List ℕ) → (row.parts ≡ 0 → ⊥) → row.most ≤ 24 → (l : Line) → value_of row s ≡ Ok l → Fits row l
unfolding value_of
value_fits row s parts few =
    let none : (l : Line) → Err BadValue ≡ Ok l → Fits row l = λ l e. absurd (not_ok _ _ e) in
    either (eqb row.parts 0) (Fits row) _ _
    (λ t. absurd (parts (eqb-true _ _ t)))
    (λ _. either (eqb (length s) 0) (Fits row) _ _
    (λ _. either row.blank (Fits row) _ _ (λ t l e. subst (Fits row) (same_ok _ _ e) (blank_fits row t)) (λ _. none))
    (λ _. checked_fits row few s (numbers row.low row.high row.parts row.most 0 s no_line) refl))
