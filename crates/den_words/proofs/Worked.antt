-- Rows of words, worked out.
use Rattle.std.proofs.Common.{◌≡◌, refl, [], ◌∷◌, codes}
use Rattle.std.specs.Prelude.{Some, None}
use Rattle.clap.proofs.OnLiterals.{clap_on_literals}
use Rattle.den_words.specs.Words.{names_in}

pub a_folder : names_in (codes "d" ∷ []) ≡ Some (record { folder = codes "d"; config = None; listen = None; drive = None })
unfolding clap_on_literals
a_folder = refl

pub a_configuration : names_in (codes "d" ∷ codes "--config" ∷ codes "c" ∷ []) ≡ Some (record { folder = codes "d"; config = Some (codes "c"); listen = None; drive = None })
unfolding clap_on_literals
a_configuration = refl

pub a_port : names_in (codes "--listen" ∷ codes "80" ∷ codes "d" ∷ []) ≡ Some (record { folder = codes "d"; config = None; listen = Some 80; drive = None })
unfolding clap_on_literals
a_port = refl

pub port_zero : names_in (codes "d" ∷ codes "--listen" ∷ codes "0" ∷ []) ≡ None
unfolding clap_on_literals
port_zero = refl

pub no_number : names_in (codes "d" ∷ codes "--drive" ∷ codes "x" ∷ []) ≡ None
unfolding clap_on_literals
no_number = refl

pub count_and_port : names_in (codes "d" ∷ codes "--drive" ∷ codes "5" ∷ codes "--listen" ∷ codes "80" ∷ []) ≡ None
unfolding clap_on_literals
count_and_port = refl

pub two_folders : names_in (codes "d" ∷ codes "e" ∷ []) ≡ None
unfolding clap_on_literals
two_folders = refl

pub no_folder : names_in [] ≡ None
unfolding clap_on_literals
no_folder = refl

pub a_leading_zero : names_in (codes "d" ∷ codes "--drive" ∷ codes "00" ∷ []) ≡ None
unfolding clap_on_literals
a_leading_zero = refl

pub count_zero : names_in (codes "d" ∷ codes "--drive=0" ∷ []) ≡ Some (record { folder = codes "d"; config = None; listen = None; drive = Some 0 })
unfolding clap_on_literals
count_zero = refl

pub behind_two_dashes : names_in (codes "--" ∷ codes "-d" ∷ []) ≡ Some (record { folder = codes "-d"; config = None; listen = None; drive = None })
unfolding clap_on_literals
behind_two_dashes = refl
