pub mod IsInstructionRun
