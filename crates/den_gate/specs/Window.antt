-- What a window shows.
use Rattle.std.specs.Prelude.{◌≡◌, ◌≤◌, ℕ, ◌+◌, List, length, take, drop}
use Rattle.den_gate.specs.declared.window.Window.{Window}

-- the bytes that a window shows are the file's
pub record Shows (window : Window) (file : List ℕ) : Type 0 where
  pub within : window.from + window.filled ≤ length file
  pub bytes : take window.filled window.bytes ≡ take window.filled (drop window.from file)
