-- The day sheet that the lines make, and its reader (01, Energies and sheet).
use Rattle.std.specs.Prelude.{ℕ, ◌+◌, ◌*◌, ◌/◌, cond, List, Result, Ok, Err, drop, get_or}
use Rattle.finite.specs.Finite.{tabulate}
use Rattle.units.specs.Units.{member_at, members}
use Rattle.offer.specs.declared.Step.{Step}
use Rattle.offer.specs.declared.Offer.{Offer}
use Rattle.text.specs.declared.Line.{Line}
use Rattle.lines.specs.Lines.{Reading, line_of, number_of}
use Rattle.lines.specs.Refusals.{no_start, bad_start, answer_of}
use Rattle.lines.specs.declared.TextRefusal.{TextRefusal}
use Rattle.sheet.specs.declared.UnitSheet.{UnitSheet}
use Rattle.sheet.specs.declared.Sheet.{Sheet}
use Rattle.sheet_text.specs.declared.SheetRead.{SheetRead}
use Rattle.sheet_lines.specs.Rows.{loss_line, ceiling_line, bar_line, cpf_line, units_line, block_line, read_lines}
use Rattle.sheet.specs.Empty.{no_unit, no_sheet}

-- the pairs quantity:price of a line
abbrev pub step_by : Line → ℕ → Step
step_by l s = record { quantity = record { 0 = get_or l.number (2 * s) 0 }; price = get_or l.number (2 * s + 1) 0 }

unfoldable pub offer_by : Line → Offer
offer_by l =
    record {
      steps = l.count / 2;
      step = tabulate 10 (step_by l);
    }

-- block j of the units; f k is line k, from 0
unfoldable pub unit_by : (ℕ → Line) → ℕ → UnitSheet
unit_by f j =
    record {
      own = number_of (f (block_line j));
      nominal = record { 0 = number_of (f (block_line j + 1)) };
      monthly = record { 0 = number_of (f (block_line j + 2)) };
      offers = tabulate 24 (λ h. offer_by (f (block_line j + 3 + h)));
    }

-- place k is that of unit k + 1; the blocks are those of the plant's units, ascending
abbrev pub place_by : (ℕ → Line) → ℕ → ℕ → UnitSheet
place_by f units k = cond (member_at units k) (unit_by f (members units k)) no_unit

unfoldable pub sheet_by : (ℕ → Line) → Sheet
sheet_by f =
    record {
      month = number_of (f 0);
      day = number_of (f 1);
      loss = number_of (f loss_line);
      ceiling = number_of (f ceiling_line);
      bar = number_of (f bar_line);
      cpf = tabulate 24 (λ h. number_of (f (cpf_line + h)));
      units = number_of (f units_line);
      unit = tabulate 8 (place_by f (number_of (f units_line)));
    }

-- the sheet of a reading, none where it is refused
abbrev pub sheet_of : Result Reading TextRefusal → Sheet
sheet_of (Ok s) = sheet_by (line_of s.lines)
sheet_of (Err r) = no_sheet

-- what a reader tells: the place after what was read, or why the text is refused; and the sheet, empty where it is
pub record SheetTold : Type 0 where
  pub answer : Result ℕ TextRefusal
  pub sheet : Sheet

abbrev pub told : Result SheetRead TextRefusal → SheetTold
told (Ok r) = record { answer = Ok r.place; sheet = r.sheet }
told (Err r) = record { answer = Err r; sheet = no_sheet }

-- a sheet from `start` on: 4 for size or start first, then the first bad line
unfoldable pub read_sheet : List ℕ → ℕ → SheetTold
read_sheet text start =
    cond (bad_start text start) (record { answer = Err no_start; sheet = no_sheet })
    (let s = read_lines (drop start text) in
    record { answer = answer_of start s; sheet = sheet_of s })
