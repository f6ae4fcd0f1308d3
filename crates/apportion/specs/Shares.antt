-- Largest remainder: a total divided among parts by their weights. Parts are numbered from 0, and there may be any number of them.
-- 01, Allocation: "Shares: quotients rounded down, then one grain each to the largest remainders until they total X; equal
-- remainders, lower unit first"; the same for kinds (01, Five items, 4).
use Rattle.std.specs.Prelude.{ℕ, zero, suc, ◌+◌, ◌*◌, ◌-◌, ◌/◌, ◌%◌, ◌^◌, ◌<◌, ◌≡◌, cond, List, ltb, eqb, length, get_or, set, replicate}
use Rattle.finite.specs.Finite.{sum, tabulate}

-- the sum of a list's numbers
abbrev pub sum_of : List ℕ → ℕ
sum_of l = sum (length l) (λ i. get_or l i 0)

-- part i's quotient rounded down, and its remainder; `all` is the sum of the weights w
abbrev pub quotient : ℕ → ℕ → List ℕ → ℕ → ℕ
quotient all total w i = total * get_or w i 0 / all

abbrev pub remainder : ℕ → ℕ → List ℕ → ℕ → ℕ
remainder all total w i = total * get_or w i 0 % all

-- part i's remainder r i while the part has its quotient q i alone, 0 once it has one more
abbrev pub remainder_left : (ℕ → ℕ) → (ℕ → ℕ) → List ℕ → ℕ → ℕ
remainder_left q r a i = cond (eqb (get_or a i 0) (q i)) (r i) 0

-- the larger of two parts' remainders: the first part where they are equal
abbrev pub larger : (ℕ → ℕ) → (ℕ → ℕ) → List ℕ → ℕ → ℕ → ℕ
larger q r a b i = cond (ltb (remainder_left q r a b) (remainder_left q r a i)) i b

-- the part with the largest remainder among the first n; equal remainders: the lowest part
unfoldable pub largest : (ℕ → ℕ) → (ℕ → ℕ) → List ℕ → ℕ → ℕ
largest q r a zero = 0
largest q r a (suc n) = let b = largest q r a n in larger q r a b n

-- one more to part b
abbrev pub one_more : List ℕ → ℕ → List ℕ
one_more a b = set a b (get_or a b 0 + 1)

-- h times one more to the part with the largest remainder
unfoldable pub add_ones : (ℕ → ℕ) → (ℕ → ℕ) → ℕ → ℕ → List ℕ → List ℕ
add_ones q r n zero a = a
add_ones q r n (suc h) a = let b = add_ones q r n h a in one_more b (largest q r b n)

-- what the quotients leave of the total
abbrev pub left : List ℕ → ℕ → ℕ
left w total = total - sum (length w) (quotient (sum_of w) total w)

-- the shares of the total by the weights w; where all weights are 0, all shares are 0
unfoldable pub shares : List ℕ → ℕ → List ℕ
shares w total =
    cond (eqb (sum_of w) 0) (replicate (length w) 0)
    (add_ones (quotient (sum_of w) total w) (remainder (sum_of w) total w) (length w) (left w total)
    (tabulate (length w) (quotient (sum_of w) total w)))

-- for the code: every product of the total and a weight is a machine number
abbrev pub Fits : List ℕ → ℕ → Type 0
Fits w total = (i : ℕ) → i < length w → total * get_or w i 0 < 2 ^ 64

-- for the code: the parts a have their quotients, and `rest` is what these leave of the total
pub record Due (w : List ℕ) (total all rest : ℕ) (a : List ℕ) : Type 0 where
  pub some : 0 < sum_of w
  pub fits : Fits w total
  pub summed : all ≡ sum_of w
  pub due : rest ≡ left w total
  pub begun : a ≡ tabulate (length w) (quotient all total w)
