-- Conversions between gross, net-at-gate and hub energies, and what is paid for availability (01, Energies and sheet; Five items).
use Rattle.std.specs.Prelude.{ℕ, ◌+◌, ◌*◌, ◌-◌, ◌/◌}
use Rattle.energy.specs.declared.GrossKwh.{GrossKwh}
use Rattle.energy.specs.declared.NetKwh.{NetKwh}
use Rattle.energy.specs.declared.HubKwh.{HubKwh}
use Rattle.energy.specs.declared.HubGrains.{HubGrains}

-- 01, Energies and sheet: net(P) = P × (10,000 − ρ) / 10,000, rounded down; ρ is the unit's own use
unfoldable pub net_of : GrossKwh → ℕ → NetKwh
net_of gross own = record { 0 = gross.0 * (10000 - own) / 10000 }

-- 01, Energies and sheet: hub of P kWh = P × (10,000 − L) grains; L is the plant's loss
unfoldable pub hub_of : NetKwh → ℕ → HubGrains
hub_of net loss = record { 0 = net.0 * (10000 - loss) }

-- a / b, rounded up
abbrev pub quotient_up : ℕ → ℕ → ℕ
quotient_up a b = (a + (b - 1)) / b

-- 01, Energies and sheet: gate of a commitment of E hub kWh = E × 10,000 / (10,000 − L), rounded up
unfoldable pub gate_of : HubKwh → ℕ → NetKwh
gate_of commitment loss = record { 0 = quotient_up (commitment.0 * 10000) (10000 - loss) }

-- 01, Energies and sheet: hub energy is whole grains of 0.1 Wh (10^7 a MWh)
unfoldable pub grains_of : HubKwh → HubGrains
grains_of kwh = record { 0 = kwh.0 * 10000 }

-- 01, Five items: V(k) = k × cpf × bar / 10^6, rounded down, in Rial
unfoldable pub pay_of : NetKwh → ℕ → ℕ → ℕ
pay_of k cpf bar = k.0 * cpf * bar / 1000000
