-- The empty day sheet: what stands at a place outside the plant, and what a refused reading gives (01, Energies and sheet).
use Rattle.std.specs.Prelude.{replicate}
use Rattle.offer.specs.Offer.{no_offer}
use Rattle.sheet.specs.declared.UnitSheet.{UnitSheet}
use Rattle.sheet.specs.declared.Sheet.{Sheet}

-- a sheet's part for a unit outside the plant, and the sheet of a refused reading
abbrev pub no_unit : UnitSheet
no_unit = record { own = 0; nominal = record { 0 = 0 }; monthly = record { 0 = 0 }; offers = replicate 24 no_offer }

abbrev pub no_sheet : Sheet
no_sheet =
    record { month = 0; day = 0; loss = 0; ceiling = 0; bar = 0; cpf = replicate 24 0; units = 0; unit = replicate 8 no_unit }
