-- The report's input (01, "The report program"): "32-bit words, low byte first: fuel, N, τ, argument count, each argument as low then
-- high word, then the table."
use Rattle.std.specs.Prelude.{ℕ, zero, suc, ◌+◌, ◌*◌, ◌%◌, Bool, cond, ◌&&◌, List, [], ◌∷◌, length, get_or, drop, eqb, leb}
use Rattle.language.specs.House.{house_period}

-- "low byte first"
abbrev pub word_of : ℕ → ℕ → ℕ → ℕ → ℕ
word_of a b c d = a + 256 * b + 65536 * c + 16777216 * d

-- "32-bit words"; bytes at the end that are no whole word are none
unfoldable pub words_of : List ℕ → List ℕ
words_of (a ∷ b ∷ c ∷ d ∷ rest) = word_of a b c d ∷ words_of rest
words_of (a ∷ b ∷ c ∷ []) = []
words_of (a ∷ b ∷ []) = []
words_of (a ∷ []) = []
words_of [] = []

-- the fourth word is the "argument count"
abbrev pub count_of : List ℕ → ℕ
count_of w = get_or w 3 0

-- the first n arguments in the words after the fourth, "each argument as low then high word"
unfoldable pub pairs_of : ℕ → List ℕ → List ℕ
pairs_of zero w = []
pairs_of (suc n) w = (get_or w 0 0 + 4294967296 * get_or w 1 0) ∷ pairs_of n (drop 2 w)

-- "0 for fuel, N or τ takes the house default"
unfoldable pub or_house : ℕ → ℕ → ℕ
or_house given house = cond (eqb given 0) house given

-- the second word is N's, the third τ's
abbrev pub period_word : List ℕ → ℕ
period_word w = get_or w 1 0

-- "the τ in use": the word's, or by "house default: .. τ 50"
abbrev pub tau_in_use : List ℕ → ℕ
tau_in_use w = or_house (get_or w 2 0) 50

-- WHAT THE WORDS SAY: "house default: fuel 1,000,000, .. τ 50"; 02, P2: "0 for N shall mean 20 times the τ in use"
pub record Job : Type 0 where
  pub fuel : ℕ
  pub period : ℕ
  pub tau : ℕ
  pub arguments : List ℕ
  pub table : List ℕ

unfoldable pub job_of : List ℕ → Job
job_of w = record {
  fuel = or_house (get_or w 0 0) 1000000;
  period = or_house (period_word w) (house_period (tau_in_use w));
  tau = tau_in_use w;
  arguments = pairs_of (count_of w) (drop 4 w);
  table = drop (4 + 2 * count_of w) w;
}

-- "too short for its first four words or its arguments, or with more than 3 of them, is refusal 1"
unfoldable pub complete : List ℕ → Bool
complete w = leb 4 (length w) && (leb (count_of w) 3 && leb (4 + 2 * count_of w) (length w))

-- "Input above 65,536 bytes, not whole words" is refusal 1, too
unfoldable pub whole : List ℕ → Bool
whole bytes = leb (length bytes) 65536 && eqb (length bytes % 4) 0
