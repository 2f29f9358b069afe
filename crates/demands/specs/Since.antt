-- "Over any sequence of calls from the start" (demand 2): the controller in use after calls that were made, and the
-- controllers after further ones. For every statement that begins "after any calls from the start".
use Rattle.std.specs.Prelude.{ℕ, ◌≡◌, List, [], ◌∷◌, ◌++◌}
use Rattle.std.specs.Prelude.{Result, Ok, Err}
use Rattle.numbers.specs.declared.Refusal.{Refusal}
use Rattle.settings.specs.declared.Settings.{Settings}
use Rattle.settings.specs.Read.{read_of}
use Rattle.controller.specs.declared.Controller.{Controller}
use Rattle.controller.specs.Start.{fresh_of}
use Rattle.demands.specs.Machine.{Call, Read, NoController, Using}
use Rattle.demands.specs.After.{after_all}
use Rattle.demands.specs.Calls.{CallMade, DidRead, DidReceive, DidTick, DidWrite, AllKeepPromises, box_last}

-- the calls `ms` were made one after the other from the start, each with the answer that it gave; each answer keeps its
-- entry point's promise, as each is proved to; and `c` is the controller in use then. That a host calls the one that
-- the call before it left, and takes the controller of an accepted record into use, is its own part (docs/INSURER.md)
pub record AfterCalls (ms : List CallMade) (c : Controller) : Type 0 where
  pub kept : AllKeepPromises NoController ms
  pub in_use : box_last NoController ms ≡ Using c

-- the controller in use after one call more: the one that the answer holds; of a refused record, and after a write, the
-- one that was
unfoldable pub made_or : Result Controller Refusal → Controller → Controller
made_or (Ok d) c = d
made_or (Err refusal) c = c

unfoldable pub use_then : Controller → CallMade → Controller
use_then c (DidRead s a) = made_or a c
use_then c (DidReceive id s a) = a.controller
use_then c (DidTick r v t old new k) = k.controller
use_then c (DidWrite old new w) = c

-- and after several
unfoldable pub use_last : Controller → List CallMade → Controller
use_last c [] = c
use_last c (m ∷ ms) = use_last (use_then c m) ms

-- of the paper's machine: a record that was read and accepted, and the calls after it, which lead from the fresh
-- controller to the one in use
pub record Since (ks : List Call) (c : Controller) : Type 0 where
  pub before : List Call
  pub bytes : List ℕ
  pub later : List Call
  pub split : ks ≡ before ++ (Read bytes ∷ later)
  pub settings : Settings
  pub taken : read_of bytes ≡ Ok settings
  pub run : after_all (fresh_of settings) later ≡ c
