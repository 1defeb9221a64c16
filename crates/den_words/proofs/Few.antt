-- A count that words name is at most 1,000,000.
use Rattle.std.proofs.Common.{◌≡◌, ◌≤◌, ◌&&◌, ℕ, Bool, true, false, List, codes, rules, refl, sym, subst}
use Rattle.std.specs.Prelude.{Option, None, Some, IfSome, nat_le, option_map, if◌then◌else◌}
use Rattle.std.specs.Str.Parse.{digits_value}
use Rattle.clap.specs.Walk.{is_empty}
use Rattle.clap.specs.Words.{Row, fault_of, first_of, matches_of}
use Rattle.den_words.specs.declared.names.Names.{Names}
use Rattle.den_words.specs.Numbers.{given_number, is_numeral, number_in}
use Rattle.den_words.specs.Words.{command_line, named, named_by, named_of, names_in}

-- an option of at most so many
abbrev IsFew : ℕ → Option ℕ → Type 0
IsFew most n = IfSome n (λ count. count ≤ most)

few_number : (least most : ℕ) (text : List ℕ) → IsFew most (number_in least most text)
few_number least most text = go (is_numeral text) (nat_le least (digits_value 10 text)) (nat_le (digits_value 10 text) most) refl
  where
    go : (a b c : Bool) → nat_le (digits_value 10 text) most ≡ c → IsFew most (if a && (b && c) then Some (digits_value 10 text) else None)
    go true true true h = search rules
    go true true false h = tt
    go true false c h = tt
    go false b c h = tt

few_given : (least most : ℕ) (text : Option (List ℕ)) → IfSome (given_number least most text) (IsFew most)
few_given least most None = tt
few_given least most (Some text) = go (number_in least most text) (few_number least most text)
  where
    go : (n : Option ℕ) → IsFew most n → IfSome (option_map Some n) (IsFew most)
    go None h = tt
    go (Some n) h = h

few_named : (folder config : Option (List ℕ)) (listen drive : Option (Option ℕ)) (most : ℕ) → IfSome drive (IsFew most)
    → IfSome (named folder config listen drive) (λ n. IsFew most n.drive)
few_named None config listen drive most h = tt
few_named (Some folder) config None drive most h = tt
few_named (Some folder) config (Some listen) None most h = tt
few_named (Some folder) config (Some (Some port)) (Some (Some count)) most h = tt
few_named (Some folder) config (Some None) (Some drive) most h = h
few_named (Some folder) config (Some (Some port)) (Some None) most h = tt

few_rows : (rows : List Row) → IfSome (named_by rows) (λ n. IsFew 1000000 n.drive)
few_rows rows = few_named (first_of (codes "folder") rows) (first_of (codes "config") rows) (given_number 1 65535 (first_of (codes "listen") rows))
    (given_number 0 1000000 (first_of (codes "drive") rows)) 1000000 (few_given 0 1000000 (first_of (codes "drive") rows))

few_in : (words : List (List ℕ)) → IfSome (names_in words) (λ n. IsFew 1000000 n.drive)
few_in words = go (is_empty (fault_of command_line words))
  where
    go : (b : Bool) → IfSome (if b then named_by (matches_of command_line words) else None) (λ n. IsFew 1000000 n.drive)
    go true = few_rows (matches_of command_line words)
    go false = tt

pub few_seen : (words : List (List ℕ)) (names : Option Names) → option_map named_of names ≡ names_in words → IfSome names (λ n. IfSome n.drive (λ count. count ≤ 1000000))
few_seen words names h = go names (subst (λ n. IfSome n (λ n. IsFew 1000000 n.drive)) (sym h) (few_in words))
  where
    go : (names : Option Names) → IfSome (option_map named_of names) (λ n. IsFew 1000000 n.drive) → IfSome names (λ n. IfSome n.drive (λ count. count ≤ 1000000))
    go None h = tt
    go (Some n) h = h
