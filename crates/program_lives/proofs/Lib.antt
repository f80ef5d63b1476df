mod LoadSteps
mod LoadedNode
mod LivesOfRuns
mod RefusedRuns
