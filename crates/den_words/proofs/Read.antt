-- What clap's matches give is what its rows give.
use Rattle.std.proofs.Common.{◌≡◌, Bool, true, false, List, [], ◌∷◌, codes, refl}
use Rattle.std.specs.Prelude.{find, map, option_map, option_and_then, slice_get}
use Rattle.std.specs.Borrow.{Bor}
use Rattle.std.specs.Str.{bytes_eq}
use Rattle.clap.specs.Facts.{Entry}
use Rattle.clap.specs.Walk.{row_of, texts}
use Rattle.clap.specs.Words.{Text, fault_of, first_of, first_value, found_of, is_simple, is_simple_and_free, matches_of, rows_of}
use Rattle.clap.specs.declared.parser.matches.ArgMatches.{ArgMatches}
use Rattle.clap.proofs.OnLiterals.{clap_on_literals}
use Rattle.den_words.specs.Numbers.{given_number}
use Rattle.den_words.specs.Words.{command_line, named, names_in}

first_text : (vals : List (Bor Text)) → option_map (λ s. s.now) (slice_get vals 0) ≡ slice_get (texts vals) 0
first_text [] = refl
first_text (v ∷ vs) = refl

-- the first value of an id, by entries and by rows
by_rows : (es : List Entry) (id : Text)
    → option_and_then (λ a. option_map (λ s. s.now) (slice_get a.vals.items 0)) (option_map (λ e. e.1) (find (λ e. bytes_eq e.0.now id) es))
    ≡ first_of id (map row_of es)
by_rows [] id = refl
by_rows (e ∷ es) id = go (bytes_eq e.0.now id) refl (by_rows es id)
  where
    go : (t : Bool) → bytes_eq e.0.now id ≡ t
        → option_and_then (λ a. option_map (λ s. s.now) (slice_get a.vals.items 0)) (option_map (λ x. x.1) (find (λ x. bytes_eq x.0.now id) es)) ≡ first_of id (map row_of es)
        → option_and_then (λ a. option_map (λ s. s.now) (slice_get a.vals.items 0)) (option_map (λ x. x.1) (find (λ x. bytes_eq x.0.now id) (e ∷ es)))
        ≡ first_of id (map row_of (e ∷ es))
    go true t rest = rw t (first_text e.1.vals.items)
    go false t rest = rw t rest

value_by_rows : (m : ArgMatches) (id : Text) → first_value (found_of m) id ≡ first_of id (rows_of (found_of m))
value_by_rows m id = by_rows (found_of m).entries.items id

pub simple : is_simple command_line ≡ true
unfolding clap_on_literals
simple = refl

pub simple_and_free : is_simple_and_free command_line ≡ true
unfolding clap_on_literals
simple_and_free = refl

-- where clap takes the words, its values are what the words name
pub read : (m : ArgMatches) (words : List Text) → fault_of command_line words ≡ [] → rows_of (found_of m) ≡ matches_of command_line words
    → named (first_value (found_of m) (codes "folder")) (first_value (found_of m) (codes "config"))
    (given_number 1 65535 (first_value (found_of m) (codes "listen"))) (given_number 0 1000000 (first_value (found_of m) (codes "drive")))
    ≡ names_in words
read m words taken rows =
    rw (value_by_rows m (codes "folder"), value_by_rows m (codes "config"), value_by_rows m (codes "listen"), value_by_rows m (codes "drive"), rows, taken) refl
