-- What a byte of a sample brings, in document 02's terms (Q-1): half of a sample, a height, or question 16 says no.
use Rattle.std.specs.Prelude.{ℕ, Result, Ok, Err}
use Rattle.pgm.specs.declared.samples.Samples.{Samples}
use Rattle.pgm.specs.declared.samples.Sample.{Sample}
use Rattle.pgm.specs.declared.samples.TooLarge.{TooLarge}
use Rattle.pgm.specs.declared.samples.Sample.TheVariants as sample

pub data SampleAnswer : Type 0 where
  Half : Samples → SampleAnswer
  Height : ℕ → SampleAnswer
  No16 : SampleAnswer

abbrev pub of_sample : Result Sample TooLarge → SampleAnswer
of_sample (Ok (sample.Half x)) = Half x
of_sample (Ok (sample.Height v)) = Height v
of_sample (Err _) = No16
