use Rattle.replay_run.specs.Judged.{names_as}
use Rattle.std.proofs.Common.{refl}
use Rattle.demo_run.specs.Judged.{given_as}
use Rattle.dbg_app.proofs.Calling.{trace_status, chain_status, no_chain_status, chain_is_call, chain_called, chain_files, chain_design_line, chain_stimulus_line, design_status, no_trace_status, no_file_status, trace_is_call, trace_called, trace_files, no_command_called, none_called, design_called, design_files, trace_row, chain_row, design_row, trace_asked, chain_asked, design_asked, trace_unread, chain_unread, design_unread, trace_compiles, chain_compiles, design_compiles}
use Rattle.dbg_app.proofs.program.run.Goals as goal

-- ---- a replay

pub returns-in-Some-clause-statuses : goal.returns-in-Some-clause-statuses
returns-in-Some-clause-statuses g c = trace_status c.run_replay.result c.run_replay.ensures.statuses

pub returns-in-Some-clause-usage : goal.returns-in-Some-clause-usage
returns-in-Some-clause-usage g c = λ is. absurd (no_trace_status c.run_replay.result 2 refl c.run_replay.ensures.statuses is)

pub returns-in-Some-clause-usage_line : goal.returns-in-Some-clause-usage_line
returns-in-Some-clause-usage_line g c = λ is. absurd (no_trace_status c.run_replay.result 2 refl c.run_replay.ensures.statuses is)

pub returns-in-Some-clause-design_line : goal.returns-in-Some-clause-design_line
returns-in-Some-clause-design_line g c = λ is. absurd (no_trace_status c.run_replay.result 3 refl c.run_replay.ensures.statuses is)

pub returns-in-Some-clause-stimulus_line : goal.returns-in-Some-clause-stimulus_line
returns-in-Some-clause-stimulus_line g c = λ is. absurd (no_trace_status c.run_replay.result 4 refl c.run_replay.ensures.statuses is)

pub returns-in-Some-clause-no_command : goal.returns-in-Some-clause-no_command
returns-in-Some-clause-no_command g c = λ none. absurd (trace_is_call c.args.words.now (names_as c.in-Some.replay) c.in-Some.ensures none)

pub returns-in-Some-clause-usage_front : goal.returns-in-Some-clause-usage_front
returns-in-Some-clause-usage_front g c = λ none. absurd (trace_is_call c.args.words.now (names_as c.in-Some.replay) c.in-Some.ensures none)

pub returns-in-Some-clause-done : goal.returns-in-Some-clause-done
returns-in-Some-clause-done g c = λ early. trace_called (g.F.Files.told c.args.files.now) c.args.words.now (names_as c.in-Some.replay) _ c.in-Some.ensures (c.run_replay.ensures.done early)

pub returns-in-Some-clause-complete : goal.returns-in-Some-clause-complete
returns-in-Some-clause-complete g c = trace_called (g.F.Files.told c.args.files.now) c.args.words.now (names_as c.in-Some.replay) _ c.in-Some.ensures c.run_replay.ensures.complete

pub returns-in-Some-clause-front : goal.returns-in-Some-clause-front
returns-in-Some-clause-front g c = λ late. trace_called (g.F.Files.told c.args.files.now) c.args.words.now (names_as c.in-Some.replay) _ c.in-Some.ensures (c.run_replay.ensures.front late)

pub returns-in-Some-clause-asked : goal.returns-in-Some-clause-asked
returns-in-Some-clause-asked g c = trace_files (g.F.Files.told c.args.files.now) c.args.words.now (names_as c.in-Some.replay) _ _ c.in-Some.ensures c.run_replay.ensures.asked

pub returns-in-Some-clause-row : goal.returns-in-Some-clause-row
returns-in-Some-clause-row g c = trace_row c.args.words.now (names_as c.in-Some.replay) c.run_replay.result c.in-Some.ensures c.run_replay.ensures.statuses

pub returns-in-Some-clause-files : goal.returns-in-Some-clause-files
returns-in-Some-clause-files g c = trace_asked (g.F.Files.told c.args.files.now) c.args.words.now (names_as c.in-Some.replay) c.run_replay.result _ _ _ _ c.in-Some.ensures c.run_replay.ensures.files

pub returns-in-Some-clause-unread : goal.returns-in-Some-clause-unread
returns-in-Some-clause-unread g c = λ seven. trace_unread _ _ (g.F.Files.told c.args.files.now) _ _ c.args.words.now (names_as c.in-Some.replay) c.in-Some.ensures (c.run_replay.ensures.unread seven)

pub returns-in-Some-clause-compiled : goal.returns-in-Some-clause-compiled
returns-in-Some-clause-compiled g c = λ zero. trace_compiles (g.F.Files.told c.args.files.now) c.args.words.now (names_as c.in-Some.replay) c.in-Some.ensures

-- ---- a demo

pub returns-in-Some-read_demo-clause-statuses : goal.returns-in-Some-read_demo-clause-statuses
returns-in-Some-read_demo-clause-statuses g c = chain_status c.run_demo.result c.run_demo.ensures.statuses

pub returns-in-Some-read_demo-clause-usage : goal.returns-in-Some-read_demo-clause-usage
returns-in-Some-read_demo-clause-usage g c = λ is. absurd (no_chain_status c.run_demo.result 2 refl c.run_demo.ensures.statuses is)

pub returns-in-Some-read_demo-clause-usage_line : goal.returns-in-Some-read_demo-clause-usage_line
returns-in-Some-read_demo-clause-usage_line g c = λ is. absurd (no_chain_status c.run_demo.result 2 refl c.run_demo.ensures.statuses is)

pub returns-in-Some-read_demo-clause-file_line : goal.returns-in-Some-read_demo-clause-file_line
returns-in-Some-read_demo-clause-file_line g c = λ is. absurd (no_chain_status c.run_demo.result 5 refl c.run_demo.ensures.statuses is)

pub returns-in-Some-read_demo-clause-design_line : goal.returns-in-Some-read_demo-clause-design_line
returns-in-Some-read_demo-clause-design_line g c = λ is. chain_design_line _ _ (c.run_demo.ensures.design_line is)

pub returns-in-Some-read_demo-clause-stimulus_line : goal.returns-in-Some-read_demo-clause-stimulus_line
returns-in-Some-read_demo-clause-stimulus_line g c = λ is. chain_stimulus_line _ _ (c.run_demo.ensures.stimulus_line is)

pub returns-in-Some-read_demo-clause-no_command : goal.returns-in-Some-read_demo-clause-no_command
returns-in-Some-read_demo-clause-no_command g c = λ none. absurd (chain_is_call c.args.words.now (given_as c.in-Some-read_demo.demo) c.in-None.ensures c.in-Some-read_demo.ensures none)

pub returns-in-Some-read_demo-clause-usage_front : goal.returns-in-Some-read_demo-clause-usage_front
returns-in-Some-read_demo-clause-usage_front g c = λ none. absurd (chain_is_call c.args.words.now (given_as c.in-Some-read_demo.demo) c.in-None.ensures c.in-Some-read_demo.ensures none)

pub returns-in-Some-read_demo-clause-done : goal.returns-in-Some-read_demo-clause-done
returns-in-Some-read_demo-clause-done g c = λ early. chain_called (g.F.Files.told c.args.files.now) c.args.words.now (given_as c.in-Some-read_demo.demo) _ c.in-None.ensures c.in-Some-read_demo.ensures (c.run_demo.ensures.done early)

pub returns-in-Some-read_demo-clause-complete : goal.returns-in-Some-read_demo-clause-complete
returns-in-Some-read_demo-clause-complete g c = chain_called (g.F.Files.told c.args.files.now) c.args.words.now (given_as c.in-Some-read_demo.demo) _ c.in-None.ensures c.in-Some-read_demo.ensures c.run_demo.ensures.complete

pub returns-in-Some-read_demo-clause-front : goal.returns-in-Some-read_demo-clause-front
returns-in-Some-read_demo-clause-front g c = λ late. chain_called (g.F.Files.told c.args.files.now) c.args.words.now (given_as c.in-Some-read_demo.demo) _ c.in-None.ensures c.in-Some-read_demo.ensures (c.run_demo.ensures.front late)

pub returns-in-Some-read_demo-clause-asked : goal.returns-in-Some-read_demo-clause-asked
returns-in-Some-read_demo-clause-asked g c = chain_files (g.F.Files.told c.args.files.now) c.args.words.now (given_as c.in-Some-read_demo.demo) _ _ c.in-None.ensures c.in-Some-read_demo.ensures c.run_demo.ensures.asked

pub returns-in-Some-read_demo-clause-row : goal.returns-in-Some-read_demo-clause-row
returns-in-Some-read_demo-clause-row g c = chain_row c.args.words.now (given_as c.in-Some-read_demo.demo) c.run_demo.result c.in-None.ensures c.in-Some-read_demo.ensures c.run_demo.ensures.statuses

pub returns-in-Some-read_demo-clause-files : goal.returns-in-Some-read_demo-clause-files
returns-in-Some-read_demo-clause-files g c = chain_asked (g.F.Files.told c.args.files.now) c.args.words.now (given_as c.in-Some-read_demo.demo) c.run_demo.result _ _ _ _ c.in-None.ensures c.in-Some-read_demo.ensures c.run_demo.ensures.files

pub returns-in-Some-read_demo-clause-unread : goal.returns-in-Some-read_demo-clause-unread
returns-in-Some-read_demo-clause-unread g c = λ seven. chain_unread _ _ (g.F.Files.told c.args.files.now) _ _ c.args.words.now (given_as c.in-Some-read_demo.demo) c.in-None.ensures c.in-Some-read_demo.ensures (c.run_demo.ensures.unread seven)

pub returns-in-Some-read_demo-clause-compiled : goal.returns-in-Some-read_demo-clause-compiled
returns-in-Some-read_demo-clause-compiled g c = λ zero. chain_compiles (g.F.Files.told c.args.files.now) c.args.words.now (given_as c.in-Some-read_demo.demo) c.in-None.ensures c.in-Some-read_demo.ensures

-- ---- a command over a design

pub returns-in-None-read_demo-clause-statuses : goal.returns-in-None-read_demo-clause-statuses
returns-in-None-read_demo-clause-statuses g c = design_status c.run_design.result.status c.run_design.ensures.statuses

pub returns-in-None-read_demo-clause-usage : goal.returns-in-None-read_demo-clause-usage
returns-in-None-read_demo-clause-usage g c = λ is. none_called c.args.words.now c.in-None.ensures c.in-None-read_demo.ensures (c.run_design.ensures.usage is)

pub returns-in-None-read_demo-clause-no_command : goal.returns-in-None-read_demo-clause-no_command
returns-in-None-read_demo-clause-no_command g c = λ none. c.run_design.ensures.no_command (no_command_called c.args.words.now c.in-None.ensures c.in-None-read_demo.ensures none)

pub returns-in-None-read_demo-clause-file_line : goal.returns-in-None-read_demo-clause-file_line
returns-in-None-read_demo-clause-file_line g c = λ is. absurd (no_file_status c.run_design.result.status c.run_design.ensures.statuses is)

pub returns-in-None-read_demo-clause-usage_front : goal.returns-in-None-read_demo-clause-usage_front
returns-in-None-read_demo-clause-usage_front g c = λ none. c.run_design.ensures.usage_front (no_command_called c.args.words.now c.in-None.ensures c.in-None-read_demo.ensures none)

pub returns-in-None-read_demo-clause-done : goal.returns-in-None-read_demo-clause-done
returns-in-None-read_demo-clause-done g c = λ early. design_called (g.F.Files.told c.args.files.now) c.args.words.now _ c.in-None.ensures c.in-None-read_demo.ensures (c.run_design.ensures.done early)

pub returns-in-None-read_demo-clause-complete : goal.returns-in-None-read_demo-clause-complete
returns-in-None-read_demo-clause-complete g c = design_called (g.F.Files.told c.args.files.now) c.args.words.now _ c.in-None.ensures c.in-None-read_demo.ensures c.run_design.ensures.complete

pub returns-in-None-read_demo-clause-front : goal.returns-in-None-read_demo-clause-front
returns-in-None-read_demo-clause-front g c = λ late. design_called (g.F.Files.told c.args.files.now) c.args.words.now _ c.in-None.ensures c.in-None-read_demo.ensures (c.run_design.ensures.front late)

pub returns-in-None-read_demo-clause-asked : goal.returns-in-None-read_demo-clause-asked
returns-in-None-read_demo-clause-asked g c = design_files (g.F.Files.told c.args.files.now) c.args.words.now _ _ c.in-None.ensures c.in-None-read_demo.ensures c.run_design.ensures.asked

pub returns-in-None-read_demo-clause-row : goal.returns-in-None-read_demo-clause-row
returns-in-None-read_demo-clause-row g c = design_row c.args.words.now c.run_design.result.status c.in-None.ensures c.in-None-read_demo.ensures c.run_design.ensures.row

pub returns-in-None-read_demo-clause-files : goal.returns-in-None-read_demo-clause-files
returns-in-None-read_demo-clause-files g c = design_asked (g.F.Files.told c.args.files.now) c.args.words.now c.run_design.result.status _ _ _ _ c.in-None.ensures c.in-None-read_demo.ensures c.run_design.ensures.files

pub returns-in-None-read_demo-clause-unread : goal.returns-in-None-read_demo-clause-unread
returns-in-None-read_demo-clause-unread g c = λ seven. design_unread _ _ (g.F.Files.told c.args.files.now) _ _ c.args.words.now c.in-None.ensures c.in-None-read_demo.ensures (c.run_design.ensures.unread seven)

pub returns-in-None-read_demo-clause-compiled : goal.returns-in-None-read_demo-clause-compiled
returns-in-None-read_demo-clause-compiled g c = λ zero. design_compiles (g.F.Files.told c.args.files.now) c.args.words.now c.in-None.ensures c.in-None-read_demo.ensures (c.run_design.ensures.compiled zero)
