mod Fitted
