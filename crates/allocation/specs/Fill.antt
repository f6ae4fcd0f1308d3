-- The fill by rising price and what a split costs, for any number n of units. Units and a unit's grains are numbered from 0, and
-- `price u i` is the price of unit u's grain i.
use Rattle.std.specs.Prelude.{◌≡◌, Bool, cond, List, ℕ, zero, suc, ◌+◌, ◌≤◌, ◌<◌, ltb, get_or, set, replicate}
use Rattle.finite.specs.Finite.{sum}
use Rattle.energy.specs.declared.HubGrains.{HubGrains}
use Rattle.std.specs.declared.option.Option.{Option}
use Rattle.std.specs.declared.option.Option.TheVariants.{None as none, Some as at}

-- unit u's grains in a list of energies
abbrev pub grains_at : List HubGrains → ℕ → ℕ
grains_at a u = (get_or a u (record { 0 = 0 })).0

-- m grains more for unit u
abbrev pub with_more : List HubGrains → ℕ → ℕ → List HubGrains
with_more a u m = set a u (record { 0 = grains_at a u + m })

-- the unit picked so far, or unit v, which has room, where its next grain is cheaper; `next u` is the price of unit u's next grain
unfoldable pub better : (ℕ → ℕ) → Option ℕ → ℕ → Option ℕ
better next none v = at v
better next (at u) v = cond (ltb (next v) (next u)) (at v) (at u)

-- of the first n units, among those that have room, the one whose next grain has the lowest price; at equal price the lower unit
unfoldable pub best : (ℕ → ℕ) → (ℕ → Bool) → ℕ → Option ℕ
best next room zero = none
best next room (suc n) = let u = best next room n in cond (room n) (better next u n) u

-- the unit that gets the next grain: a unit has room below its ceiling
abbrev pub next_unit : (ℕ → ℕ → ℕ) → (ℕ → ℕ) → ℕ → List HubGrains → Option ℕ
next_unit price ceiling n a = best (λ u. price u (grains_at a u)) (λ u. ltb (grains_at a u) (ceiling u)) n

-- one grain more for the unit picked
unfoldable pub give : List HubGrains → Option ℕ → List HubGrains
give a none = a
give a (at u) = with_more a u 1

-- h grains more, one after the other
unfoldable pub place : (ℕ → ℕ → ℕ) → (ℕ → ℕ) → ℕ → ℕ → List HubGrains → List HubGrains
place price ceiling n zero a = a
place price ceiling n (suc h) a = let b = place price ceiling n h a in give b (next_unit price ceiling n b)

-- 01, Allocation: fill by rising price, lower unit first at equal price, each unit to its ceiling, until H is placed
unfoldable pub fill : (ℕ → ℕ → ℕ) → (ℕ → ℕ) → ℕ → ℕ → List HubGrains
fill price ceiling n h = place price ceiling n h (replicate n (record { 0 = 0 }))

-- 01, Allocation: a split gives each unit whole grains up to its ceiling, H in all
pub record Split (ceiling : ℕ → ℕ) (n h : ℕ) (x : ℕ → ℕ) : Type 0 where
  pub within : (u : ℕ) → u < n → x u ≤ ceiling u
  pub total : sum n x ≡ h

-- 01, Allocation: its cost adds each grain's modified price, from a unit's first grain up, undivided and unrounded
abbrev pub cost_of : (ℕ → ℕ → ℕ) → ℕ → (ℕ → ℕ) → ℕ
cost_of price n x = sum n (λ u. sum (x u) (price u))

-- a split, and no other costs less
pub record Cheapest (price : ℕ → ℕ → ℕ) (ceiling : ℕ → ℕ) (n h : ℕ) (x : ℕ → ℕ) : Type 0 where
  pub split : Split ceiling n h x
  pub least : (y : ℕ → ℕ) → Split ceiling n h y → cost_of price n x ≤ cost_of price n y
