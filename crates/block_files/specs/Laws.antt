-- Laws of calls on the two files of a block.
use Rattle.std.specs.Prelude.{◌≡◌, ℕ, ◌^◌, ◌<◌, List}
use Rattle.hd_base.specs.Calls.{run}
use Rattle.hd_base.specs.Calls as file_call
use Rattle.file_calls.specs.Plans.{FindFiles}
use Rattle.block_files.specs.Placements.{Placement, files_of}
use Rattle.block_files.specs.BlockCalls.{BlockCall, all_placed, calls_of, AreAble, stopped}

-- Calls that find their files make of a block's files what they make of where these lie.
abbrev pub CallsPlaceFiles : Type 0
CallsPlaceFiles = (block : ℕ) (calls : List BlockCall) (p : Placement) → block < 2 ^ 64 → AreAble p calls →
    run (calls_of block calls p) (files_of block p) ≡ files_of block (all_placed calls p)

-- The same of those that were made where one of them failed.
abbrev pub StoppedCallsPlaceFiles : Type 0
StoppedCallsPlaceFiles = (block : ℕ) (calls : List BlockCall) (p : Placement) (k n : ℕ) → block < 2 ^ 64 →
    AreAble p calls →
    run (file_call.stopped k n (calls_of block calls p)) (files_of block p) ≡
    files_of block (all_placed (stopped k n calls) p)

-- Each of the calls finds its file by its name.
abbrev pub CallsFindFiles : Type 0
CallsFindFiles = (block : ℕ) (calls : List BlockCall) (p : Placement) → block < 2 ^ 64 → AreAble p calls →
    FindFiles (files_of block p) (calls_of block calls p)
