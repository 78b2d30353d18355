pub mod InstructionRuns
