-- What a file of the right shape is parsed to.
use mathlib.Core.Path.{◌≡◌, sym, ap, ◌∙◌}
use mathlib.Core.Bool.{true, false, false≢true}
use mathlib.Core.List.{List}
use Prim.Native.Nat.{ℕ}
use native.Mathlib.Omega.{arith}
use lib.ListN.{length}
use Rattle.std.specs.Prelude.{Ok, Err}
use Rattle.std.specs.Result.{IsErrAnd, is_err}
use Rattle.std.specs.declared.result.Result.{Result}
use Rattle.text.specs.Readers.{Reads}
use Rattle.session_spec.specs.Session.{Opening, bad, read_opening, formed, asked14}
use Rattle.session_reader.specs.Reading.{question, verdict_of}
use Rattle.session_reader.specs.Tables.{Buffers, cleared, after_reading14}
use Rattle.session_reader.specs.Answers.{RestIs, ParsedIs}
use Rattle.session_reader.specs.declared.reading.Session.{Session}
use Rattle.session_reader.specs.declared.reading.ReadError.{ReadError}
use Rattle.session_reader.specs.declared.reading.ReadError.TheVariants.{BufferSizes, TooLong, Shape, Form, TooMany}
use Rattle.session_reader.proofs.Verdicts.{Parsed, unformed, is_15}

module _ (s : List ℕ) (b c : Buffers) where
  -- an error that is passed on
  pub passed_on : (r : Result Session ReadError) (e : ReadError) → IsErrAnd r (λ x. x ≡ e) → Parsed s b (bad (question e)) (cleared b) → ParsedIs s b c r
  passed_on (Ok o) e x p = absurd x
  passed_on (Err f) e x p = (ap (λ (g : ReadError). bad (question g)) x ∙ sym p.0, sym p.1)

-- what the lines after an opening are refused with
module _ (s : List ℕ) (b : Buffers) where
  pub rest_refused : {o : Opening} {a : ℕ} (F F' A A' : List ℕ) (e : ReadError) → length A ≡ 65535 → Reads read_opening s 0 0 o a → RestIs s a F F' A A' (Err e) → Parsed s b (bad (question e)) (cleared b)
  rest_refused F F' A A' Form h x y = unformed s b x y
  rest_refused F F' A A' TooMany h x y = is_15 s b x y.2 (omega (arith, h, y.3))
  rest_refused F F' A A' BufferSizes h x y = absurd y
  rest_refused F F' A A' TooLong h x y = absurd y
  rest_refused F F' A A' Shape h x y = absurd y

-- the two ways that it ends
module _ (s : List ℕ) (b c : Buffers) where
  pub refused : (r : Result Session ReadError) (v f a : List ℕ) → true ≡ is_err r → ParsedIs s b c r → (verdict_of r v f a ≡ asked14 (formed s)) × (cleared b ≡ after_reading14 (formed s) b)
  refused (Ok o) v f a e x = absurd (false≢true (sym e))
  refused (Err g) v f a e x = x

  pub accepted : (r : Result Session ReadError) → false ≡ is_err r → ParsedIs s b c r → (verdict_of r c.values c.forms c.actions ≡ asked14 (formed s)) × (c ≡ after_reading14 (formed s) b)
  accepted (Ok o) e x = (x.0, x.2)
  accepted (Err g) e x = absurd (false≢true e)
