-- The empty hour record: what stands at a place outside the plant, and what a refused reading gives (01, Hour record).
use Rattle.std.specs.Prelude.{None, List, replicate}
use Rattle.record.specs.declared.Span.{Span}
use Rattle.record.specs.declared.UnitRecord.{UnitRecord}
use Rattle.record.specs.declared.Record.{Record}
use Rattle.record.specs.Limits.{most_spans}

-- a place without a span
abbrev pub no_span : Span
no_span = record { minutes = 0; kind = 0; cause = 0; capability = record { 0 = 0 } }

-- a unit of zeros with these places for spans
abbrev pub empty_unit : List Span → UnitRecord
empty_unit span =
    record {
      declared = record { 0 = 0 };
      real = record { 0 = 0 };
      test = record { 0 = 0 };
      deviation = record { 0 = 0 };
      power = record { 0 = 0 };
      reading = None;
      since = 0;
      repair = 0;
      spans = 0;
      span = span;
    }

-- a unit outside the plant, and the record of a refused reading
abbrev pub no_unit : UnitRecord
no_unit = empty_unit (replicate most_spans no_span)

abbrev pub no_record : Record
no_record = record { hour = 0; net = record { 0 = 0 }; reverse = record { 0 = 0 }; unit = replicate 8 no_unit }
