-- What a writer holds, and bytes that it writes behind it.
use Rattle.std.specs.Prelude.{◌≡◌, ℕ, List}
use Rattle.decimal.specs.declared.Writer.{Writer}
use Rattle.decimal.specs.Output.{Output, output, written}

-- the buffer that it was lent, and the place where the next byte goes
abbrev pub held : Writer → Output
held w = output w.buffer.now w.place

-- bytes were written, into the same lent buffer
abbrev pub Wrote : (before after : Writer) → List ℕ → Type 0
Wrote before after bs =
    record {
      same_buffer : after.buffer.ghost_name ≡ before.buffer.ghost_name;
      bytes_after : held after ≡ written (held before) bs;
    }
